-- What is printed of two policies.
use Rattle.std.specs.Prelude.{ℕ, ◌+◌, Bool, List, [], length, ◌++◌, is_some, if◌then◌else◌, codes}
use Rattle.std.specs.List.{flat_map, list_any, range_with_len}
use Rattle.std.specs.Option.{option_map_or}
use Rattle.ix_label.specs.declared.form.Form.{Form}
use Rattle.ix_policy.specs.declared.rule.Rule.{Rule}
use Rattle.ix_policing.specs.{Differing.{difference_at}, Unnamed.{unnamed_user}}
use Rattle.ix_policing.specs.declared.difference.Difference.{Difference}
use Rattle.ix_policing.specs.declared.difference.Sought.{Sought}
use Rattle.ix_policing.specs.declared.difference.Sought.TheVariants as sought
use Rattle.ix_policy_texts.specs.Requests.{request_text, ruling_text}

-- the line of a difference: the request, and both rulings
unfoldable pub difference_line : Form → Difference → List ℕ
difference_line form d =
    request_text form d.request ++ codes " first " ++ ruling_text form d.request d.first ++ codes " second " ++ ruling_text form d.request d.second ++ codes "\n"

-- that of the rules of two numbers, if they differ; no rule names the other user
unfoldable pub pair_lines : Form → Sought → List Rule → List Rule → List ℕ → ℕ → ℕ → List ℕ
pair_lines form s a b other k l = option_map_or (difference_line form) (difference_at s a b other k l) []

-- whether they differ
unfoldable pub pair_differs : Sought → List Rule → List Rule → List ℕ → ℕ → ℕ → Bool
pair_differs s a b other k l = is_some (difference_at s a b other k l)

-- those of a rule of the first policy and each of the second; 0 stands for no rule
unfoldable pub rule_lines : Form → Sought → List Rule → List Rule → List ℕ → ℕ → List ℕ
rule_lines form s a b other k = flat_map (pair_lines form s a b other k) (range_with_len 0 (length b + 1))

-- whether a rule of the first policy differs from any of the second
unfoldable pub rule_differs : Sought → List Rule → List Rule → List ℕ → ℕ → Bool
rule_differs s a b other k = list_any (pair_differs s a b other k) (range_with_len 0 (length b + 1))

-- those of all rules of the first policy
unfoldable pub policy_lines : Form → Sought → List Rule → List Rule → List ℕ
policy_lines form s a b = flat_map (rule_lines form s a b (unnamed_user a b)) (range_with_len 0 (length a + 1))

-- whether any rules of two policies differ
unfoldable pub policies_differ : Sought → List Rule → List Rule → Bool
policies_differ s a b = list_any (rule_differs s a b (unnamed_user a b)) (range_with_len 0 (length a + 1))

-- what is said where none do
abbrev pub none_text : Sought → List ℕ
none_text sought.Every = codes "alike\n"
none_text sought.Allowed = codes "allows no more\n"

-- a line for each two rules that differ; and where none do, that
unfoldable pub difference_text : Form → Sought → List Rule → List Rule → List ℕ
difference_text form s a b = policy_lines form s a b ++ (if policies_differ s a b then [] else none_text s)
