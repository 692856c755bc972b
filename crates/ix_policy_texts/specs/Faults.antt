-- How the fault of a policy is spelled.
use Rattle.std.specs.Prelude.{ℕ, List, ◌++◌, codes}
use Rattle.std.specs.Fmt.{decimal}
use Rattle.ix_policy.specs.declared.fault.Field.{Field}
use Rattle.ix_policy.specs.declared.fault.Field.TheVariants as field
use Rattle.ix_policy.specs.declared.fault.PolicyFault.{PolicyFault}
use Rattle.ix_policy.specs.declared.fault.PolicyFault.TheVariants as fault

-- what is wrong with a field
abbrev pub field_text : Field → List ℕ
field_text field.Act = codes "act: neither grant nor session"
field_text field.User = codes "user: neither * nor the name of a user, which only a rule on sessions may have"
field_text field.Clear = codes "clear: not the text of a label"
field_text field.Privs = codes "privs: not the text of a set of privileges"
field_text field.Allow = codes "allow: neither true nor false"
field_text field.Other = codes "a key that no rule has"

-- what is wrong with a policy
unfoldable pub fault_text : PolicyFault → List ℕ
fault_text fault.Syntax = codes "not a JSON text\n"
fault_text fault.Shape = codes "not an object with an array under its one key, rules\n"
fault_text fault.TooMany = codes "more than 256 rules\n"
fault_text (fault.Rule index f) = codes "rule " ++ decimal index ++ codes ": " ++ field_text f ++ codes "\n"
fault_text fault.NoMemory = codes "no memory\n"
