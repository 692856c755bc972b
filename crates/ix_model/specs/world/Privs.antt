-- Sets of privileges.
use Rattle.std.specs.Prelude.{Bool, ◌==◌}
use Rattle.std.specs.Int.Bits.{bit_and, bit_or, bit_xor}
use Rattle.ix_model.specs.declared.privs.PrivSet.{PrivSet}

-- no privilege
abbrev pub no_privileges : PrivSet
no_privileges = record { 0 = 0 }

-- whether a set has no privilege
abbrev pub is_empty : PrivSet → Bool
is_empty set = set.0 == 0

-- ---- the five
-- DOWN: to lower a label
abbrev pub to_lower : PrivSet
to_lower = record { 0 = 1 }

-- PRIV: to set a file's privileges, and to grant licences
abbrev pub to_grant : PrivSet
to_grant = record { 0 = 2 }

-- CEIL: to raise a ceiling, or to set that of a process that is neither the caller nor its child
abbrev pub to_set_ceilings : PrivSet
to_set_ceilings = record { 0 = 4 }

-- THAW: to unfreeze
abbrev pub to_thaw : PrivSet
to_thaw = record { 0 = 8 }

-- LOG: to read the audit log
abbrev pub to_read_the_log : PrivSet
to_read_the_log = record { 0 = 16 }

-- ---- sets
-- whether a set has all privileges of another
unfoldable pub has_all : PrivSet → PrivSet → Bool
has_all set x = bit_and set.0 x.0 == x.0

-- the privileges of either set
unfoldable pub either_of : PrivSet → PrivSet → PrivSet
either_of a b = record { 0 = bit_or a.0 b.0 }

-- the privileges of the first set that the second lacks
unfoldable pub without : PrivSet → PrivSet → PrivSet
without a b = record { 0 = bit_xor a.0 (bit_and a.0 b.0) }
