-- The definition on texts, computed.
use Rattle.std.{proofs.Common.{◌≡◌, [], ◌∷◌, map, replicate, codes, Ok, Err, refl}, specs.{Char.encode_utf8, Str.{chars, is_utf8}}}
use Rattle.serde_json.proofs.OnLiterals.{serde_json_on_literals}
use Rattle.ix_label.specs.declared.form.Form.TheVariants.{One}
use Rattle.ix_policy.specs.{Fields.{act_at, key_count, user_at}, Policies.{elements, next_rules, policy, rule_of, rules_after, rules_in, rules_of, value_of}}
use Rattle.ix_policy.specs.declared.fault.Field.TheVariants as field
use Rattle.ix_policy.specs.declared.fault.PolicyFault.TheVariants as fault

pub no_rules : policy One (codes "{\"rules\":[]}") ≡ Ok []
unfolding serde_json_on_literals chars is_utf8 encode_utf8 policy value_of rules_in rules_of elements key_count rules_after
no_rules = refl

pub cut_off : policy One (codes "{") ≡ Err fault.Syntax
unfolding serde_json_on_literals chars is_utf8 encode_utf8 policy value_of
cut_off = refl

pub no_object : policy One (codes "[]") ≡ Err fault.Shape
unfolding serde_json_on_literals chars is_utf8 encode_utf8 policy value_of rules_in elements key_count
no_object = refl

pub further_key : policy One (codes "{\"rules\":[],\"x\":1}") ≡ Err fault.Shape
unfolding serde_json_on_literals chars is_utf8 encode_utf8 policy value_of rules_in elements key_count
further_key = refl

pub no_rule : policy One (codes "{\"rules\":[3]}") ≡ Err (fault.Rule 1 field.Act)
unfolding serde_json_on_literals chars is_utf8 encode_utf8 policy value_of rules_in rules_of elements key_count rules_after next_rules rule_of act_at
no_rule = refl

-- of a key that stands twice the last value counts
pub twice : policy One (codes "{\"rules\":3,\"rules\":[]}") ≡ Ok []
unfolding serde_json_on_literals chars is_utf8 encode_utf8 policy value_of rules_in rules_of elements key_count rules_after
twice = refl

-- a grant names no user
pub grant_to_ann : policy One (codes "{\"rules\":[{\"act\":\"grant\",\"user\":\"ann\"}]}") ≡ Err (fault.Rule 1 field.User)
unfolding serde_json_on_literals chars is_utf8 encode_utf8 policy value_of rules_in rules_of elements key_count rules_after next_rules rule_of act_at user_at
grant_to_ann = refl

-- no JSON: a number too great for a float, also behind an element that is no rule; half a surrogate pair; bytes behind the value; a byte order mark; no UTF-8
pub no_json : map (policy One) (codes "[1e309]" ∷ codes "{\"rules\":[3,1e309]}" ∷ codes "[\"\\ud83d\"]" ∷ codes "{\"rules\":[]}x" ∷ (239 ∷ 187 ∷ 191 ∷ codes "{\"rules\":[]}") ∷ (255 ∷ []) ∷ [])
    ≡ replicate 6 (Err fault.Syntax)
unfolding serde_json_on_literals chars is_utf8 encode_utf8 policy value_of
no_json = refl
