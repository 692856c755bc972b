-- The labels of a policy's rules have texts in its form.
use Rattle.std.proofs.Common.{◌≡◌, ℕ, ◌==◌, nat_le, Bool, true, false, cond, List, [], ◌∷◌, ◌++◌, ◌+◌, length, codes, Option, Some, None, Result, Ok, Err, refl}
use Rattle.std.proofs.Common.{ap, subst}
use Rattle.std.{specs.Option.{option_map_or, option_and_then}, proofs.lemmas.List.Elements.{All-nil, All-push}}
use Rattle.serde_json.specs.{Data.{Data, Items, no_items, item}, Events.items_len}
use Rattle.ix_label.{specs.{declared.form.Form.Form, Category.Categories, Forms.Fits}, proofs.Fitting.within-fits}
use Rattle.ix_text.{specs.Labels.label_in, proofs.AllLabels.label_within}
use Rattle.ix_policy.specs.Fields.{text_at, act_at, user_at, clear_at, privs_at, allow_at, key_count}
use Rattle.ix_policy.specs.declared.{fault.{Field.Field, PolicyFault.PolicyFault}, rule.Rule.Rule}
use Rattle.ix_policy.specs.Policies.{RulesFit, with_field, rule_of, next_rules, rules_after, rules_of, elements, rules_in, value_of, policy}
use Rattle.ix_policy.specs.declared.fault.Field.TheVariants as field
use Rattle.ix_policy.specs.declared.fault.PolicyFault.TheVariants as fault

-- ---- one rule
text_fits : (form : Form) (text : Option (List ℕ)) (l : Categories) → option_and_then (label_in form) text ≡ Some l → Fits form l
text_fits form None l h = cc
text_fits form (Some text) l h = within-fits form l (label_within form text l h)

clear_fits : (form : Form) (d : Data) (l : Categories) → clear_at form d ≡ Some l → Fits form l
unfolding clear_at
clear_fits form d l h = text_fits form (text_at (codes "clear") d) l h

-- where a field is right, the rest goes on with it
gone_on : {X Y : Type 0} (f : Field) (o : Option X) (more : X → Result Y Field) (y : Y) → with_field f o more ≡ Ok y → (x : X) × (o ≡ Some x) × (more x ≡ Ok y)
gone_on f None more y h = cc
gone_on f (Some x) more y h = (x, refl, h)

-- a rule whose keys are counted has the label that was read
counted : (b : Bool) (made r : Rule) → cond b (Ok made) (Err field.Other) ≡ Ok r → made.clear ≡ r.clear
counted true made r h = let same : made ≡ r = cc in ap (λ (x : Rule). x.clear) same
counted false made r h = cc

rule_fits : (form : Form) (d : Data) (r : Rule) → rule_of form d ≡ Ok r → Fits form r.clear
unfolding rule_of
rule_fits form d r h =
    let a = gone_on field.Act (act_at d) _ r h in
    let u = gone_on field.User (user_at a.0 d) _ r a.2 in
    let c = gone_on field.Clear (clear_at form d) _ r u.2 in
    let p = gone_on field.Privs (privs_at d) _ r c.2 in
    let b = gone_on field.Allow (allow_at d) _ r p.2 in
    subst (Fits form) (counted (key_count d == 5) (record { act = a.0; user = u.0; clear = c.0; privs = p.0; allow = b.0 }) r b.2) (clear_fits form d c.0 c.1)

-- ---- all rules
next_of : (form : Form) (rules more : List Rule) (found : Result Rule Field) → ((r : Rule) → found ≡ Ok r → Fits form r.clear) → RulesFit form rules
    → ◌≡◌ {A = Result (List Rule) PolicyFault} (elim found [ Ok r ↦ Ok (rules ++ r ∷ []) | Err f ↦ Err (fault.Rule (length rules + 1) f) ]) (Ok more) → RulesFit form more
next_of form rules more (Ok r) one fit h =
    let same : rules ++ r ∷ [] ≡ more = cc in
    subst (RulesFit form) same (All-push (λ (x : Rule). Fits form x.clear) rules r fit (one r refl))
next_of form rules more (Err f) one fit h = cc

next_fits : (form : Form) (rules more : List Rule) (d : Data) → RulesFit form rules → next_rules form rules d ≡ Ok more → RulesFit form more
unfolding next_rules
next_fits form rules more d fit h = next_of form rules more (rule_of form d) (λ r is. rule_fits form d r is) fit h

after_of : (form : Form) (ds : Items) (next : Result (List Rule) PolicyFault) (all : List Rule) → ((more : List Rule) → next ≡ Ok more → rules_after form more ds ≡ Ok all → RulesFit form all)
    → ◌≡◌ {A = Result (List Rule) PolicyFault} (elim next [ Ok more ↦ rules_after form more ds | Err e ↦ Err e ]) (Ok all) → RulesFit form all
after_of form ds (Ok more) all rest h = rest more refl h
after_of form ds (Err e) all rest h = cc

after_fits : (form : Form) (rules all : List Rule) (ds : Items) → RulesFit form rules → rules_after form rules ds ≡ Ok all → RulesFit form all
unfolding rules_after
after_fits form rules all no_items fit h = let same : rules ≡ all = cc in subst (RulesFit form) same fit
after_fits form rules all (item d ds) fit h =
    after_of form ds (next_rules form rules d) all (λ more is rest. after_fits form more all ds (next_fits form rules more d fit is) rest) h

-- ---- the whole text
few_fit : (form : Form) (b : Bool) (ds : Items) (all : List Rule) → cond b (rules_after form [] ds) (Err fault.TooMany) ≡ Ok all → RulesFit form all
few_fit form true ds all h = after_fits form [] all ds (All-nil (λ (x : Rule). Fits form x.clear)) h
few_fit form false ds all h = cc

elements_fit : (form : Form) (found : Option Items) (all : List Rule) → option_map_or (rules_of form) found (Err fault.Shape) ≡ Ok all → RulesFit form all
unfolding rules_of
elements_fit form None all h = cc
elements_fit form (Some ds) all h = few_fit form (nat_le (items_len ds) 256) ds all h

value_fits : (form : Form) (value : Option Data) (all : List Rule) → option_map_or (rules_in form) value (Err fault.Syntax) ≡ Ok all → RulesFit form all
unfolding rules_in
value_fits form None all h = cc
value_fits form (Some d) all h = elements_fit form (elements d) all h

pub policy_fits : (form : Form) (text : List ℕ) (all : List Rule) → policy form text ≡ Ok all → RulesFit form all
unfolding policy
policy_fits form text all h = value_fits form (value_of text) all h
