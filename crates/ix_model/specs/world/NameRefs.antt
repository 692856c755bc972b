-- What lent names mean.
use Rattle.std.specs.Prelude.{ℕ, List}
use Rattle.ix_model.specs.declared.name_ref.NameRef.{NameRef}

-- the name that a lent name is
abbrev pub name_of : NameRef → List ℕ
name_of n = n.bytes.now
