-- The users that a policy's rules name have names of scripts.
use Rattle.std.proofs.Common.{◌≡◌, ℕ, ◌==◌, nat_le, Bool, true, false, cond, List, [], ◌∷◌, ◌++◌, ◌+◌, length, codes, Option, Some, None, Result, Ok, Err, refl, ap, sym, ◌∙◌, subst}
use Rattle.std.{specs.{Prelude.{All, option_map}, Option.{option_map_or, option_and_then}}, proofs.lemmas.List.Elements.{All-nil, All-push}}
use Rattle.serde_json.specs.{Data.{Data, Items, no_items, item}, Events.items_len}
use Rattle.ix_label.specs.declared.form.Form.{Form}
use Rattle.ix_model.specs.world.Naming.{same_bytes}
use Rattle.ix_text.specs.Names.{is_script_name, name_of}
use Rattle.ix_policy.specs.Fields.{text_at, act_at, user_at, user_of, named_user, clear_at, privs_at, allow_at, key_count}
use Rattle.ix_policy.specs.declared.{fault.{Field.Field, PolicyFault.PolicyFault}, rule.{Act.Act, Rule.Rule}}
use Rattle.ix_policy.specs.Policies.{with_field, rule_of, next_rules, rules_after, rules_of, elements, rules_in, value_of, policy}
use Rattle.ix_policy.specs.declared.fault.Field.TheVariants as field
use Rattle.ix_policy.specs.declared.fault.PolicyFault.TheVariants as fault
use Rattle.ix_policy.specs.declared.rule.Act.TheVariants as act
use Rattle.ix_policy.proofs.Fitting.{policy_fits}
use Rattle.ix_policing.specs.Spelled.{ReadIsSpelled}

-- ---- one rule
abbrev HasName : Option (List ℕ) → Type 0
HasName user = option_map_or is_script_name user true ≡ true

name_parts : (b : Bool) (word name : List ℕ) → is_script_name word ≡ b → cond b (Some word) None ≡ Some name → is_script_name name ≡ true
name_parts true word name is h = let same : word ≡ name = cc in ap is_script_name (sym same) ∙ is
name_parts false word name is h = cc

name_is : (word name : List ℕ) → name_of word ≡ Some name → is_script_name name ≡ true
unfolding name_of
name_is word name h = name_parts (is_script_name word) word name refl h

named_is : (a : Act) (word name : List ℕ) → named_user a word ≡ Some name → is_script_name name ≡ true
named_is act.Grant word name h = cc
named_is act.Session word name h = name_is word name h

some_is : (o : Option (List ℕ)) (user : Option (List ℕ)) → ((name : List ℕ) → o ≡ Some name → is_script_name name ≡ true) → option_map Some o ≡ Some user → HasName user
some_is None user each h = cc
some_is (Some name) user each h = let same : Some name ≡ user = cc in ap (λ u. option_map_or is_script_name u true) (sym same) ∙ each name refl

user_is : (b : Bool) (o : Option (List ℕ)) (user : Option (List ℕ)) → ((name : List ℕ) → o ≡ Some name → is_script_name name ≡ true) → cond b (Some None) (option_map Some o) ≡ Some user → HasName user
user_is true o user each h = let same : None ≡ user = cc in ap (λ u. option_map_or is_script_name u true) (sym same)
user_is false o user each h = some_is o user each h

text_is : (a : Act) (text : Option (List ℕ)) (user : Option (List ℕ)) → option_and_then (user_of a) text ≡ Some user → HasName user
text_is a None user h = cc
text_is a (Some text) user h = user_is (same_bytes text (codes "*")) (named_user a text) user (named_is a text) h

user_at_is : (a : Act) (d : Data) (user : Option (List ℕ)) → user_at a d ≡ Some user → HasName user
unfolding user_at
user_at_is a d user h = text_is a (text_at (codes "user") d) user h

-- where a field is right, the rest goes on with it
gone_on : {X Y : Type 0} (f : Field) (o : Option X) (more : X → Result Y Field) (y : Y) → with_field f o more ≡ Ok y → (x : X) × (o ≡ Some x) × (more x ≡ Ok y)
gone_on f None more y h = cc
gone_on f (Some x) more y h = (x, refl, h)

counted : (b : Bool) (made r : Rule) → cond b (Ok made) (Err field.Other) ≡ Ok r → made.user ≡ r.user
counted true made r h = let same : made ≡ r = cc in ap (λ (x : Rule). x.user) same
counted false made r h = cc

rule_named : (form : Form) (d : Data) (r : Rule) → rule_of form d ≡ Ok r → HasName r.user
unfolding rule_of
rule_named form d r h =
    let a = gone_on field.Act (act_at d) _ r h in
    let u = gone_on field.User (user_at a.0 d) _ r a.2 in
    let c = gone_on field.Clear (clear_at form d) _ r u.2 in
    let p = gone_on field.Privs (privs_at d) _ r c.2 in
    let b = gone_on field.Allow (allow_at d) _ r p.2 in
    subst HasName (counted (key_count d == 5) (record { act = a.0; user = u.0; clear = c.0; privs = p.0; allow = b.0 }) r b.2) (user_at_is a.0 d u.0 u.1)

-- ---- all rules
abbrev AreNamed : List Rule → Type 0
AreNamed rules = All (λ (r : Rule). HasName r.user) rules

next_of : (rules more : List Rule) (found : Result Rule Field) → ((r : Rule) → found ≡ Ok r → HasName r.user) → AreNamed rules
    → ◌≡◌ {A = Result (List Rule) PolicyFault} (elim found [ Ok r ↦ Ok (rules ++ r ∷ []) | Err f ↦ Err (fault.Rule (length rules + 1) f) ]) (Ok more) → AreNamed more
next_of rules more (Ok r) one named h =
    let same : rules ++ r ∷ [] ≡ more = cc in
    subst AreNamed same (All-push (λ (x : Rule). HasName x.user) rules r named (one r refl))
next_of rules more (Err f) one named h = cc

next_named : (form : Form) (rules more : List Rule) (d : Data) → AreNamed rules → next_rules form rules d ≡ Ok more → AreNamed more
unfolding next_rules
next_named form rules more d named h = next_of rules more (rule_of form d) (λ r is. rule_named form d r is) named h

after_of : (form : Form) (ds : Items) (next : Result (List Rule) PolicyFault) (all : List Rule) → ((more : List Rule) → next ≡ Ok more → rules_after form more ds ≡ Ok all → AreNamed all)
    → ◌≡◌ {A = Result (List Rule) PolicyFault} (elim next [ Ok more ↦ rules_after form more ds | Err e ↦ Err e ]) (Ok all) → AreNamed all
after_of form ds (Ok more) all rest h = rest more refl h
after_of form ds (Err e) all rest h = cc

after_named : (form : Form) (rules all : List Rule) (ds : Items) → AreNamed rules → rules_after form rules ds ≡ Ok all → AreNamed all
unfolding rules_after
after_named form rules all no_items named h = let same : rules ≡ all = cc in subst AreNamed same named
after_named form rules all (item d ds) named h =
    after_of form ds (next_rules form rules d) all (λ more is rest. after_named form more all ds (next_named form rules more d named is) rest) h

-- ---- the whole text
few_named : (form : Form) (b : Bool) (ds : Items) (all : List Rule) → cond b (rules_after form [] ds) (Err fault.TooMany) ≡ Ok all → AreNamed all
few_named form true ds all h = after_named form [] all ds (All-nil (λ (x : Rule). HasName x.user)) h
few_named form false ds all h = cc

elements_named : (form : Form) (found : Option Items) (all : List Rule) → option_map_or (rules_of form) found (Err fault.Shape) ≡ Ok all → AreNamed all
unfolding rules_of
elements_named form None all h = cc
elements_named form (Some ds) all h = few_named form (nat_le (items_len ds) 256) ds all h

value_named : (form : Form) (value : Option Data) (all : List Rule) → option_map_or (rules_in form) value (Err fault.Syntax) ≡ Ok all → AreNamed all
unfolding rules_in
value_named form None all h = cc
value_named form (Some d) all h = elements_named form (elements d) all h

policy_named : (form : Form) (text : List ℕ) (all : List Rule) → policy form text ≡ Ok all → AreNamed all
unfolding policy
policy_named form text all h = value_named form (value_of text) all h

pub read_spelled : ReadIsSpelled
read_spelled form text rules h k r small = record { fits = policy_fits form text rules h k r small; name = policy_named form text rules h k r small }
