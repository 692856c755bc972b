-- How many rules a policy has, and how great the numbers of verdicts are.
use Rattle.std.proofs.Common.{◌≡◌, ℕ, ◌+◌, ◌≤◌, nat_le, Bool, true, false, cond, List, [], ◌∷◌, ◌++◌, length, Option, Some, None, Result, Ok, Err, refl, ap}
use Rattle.std.proofs.Common.{sym, ◌∙◌, arith, if◌then◌else◌}
use Rattle.std.{specs.Option.option_map_or, proofs.lemmas.{Bool.leb-true, List.length-append}}
use Rattle.serde_json.specs.{Data.{Data, Items, no_items, item}, Events.items_len}
use Rattle.ix_label.specs.declared.form.Form.{Form}
use Rattle.ix_policy.specs.Deciding.{decide, decide_from, matches}
use Rattle.ix_policy.specs.Policies.{rule_of, next_rules, rules_after, rules_of, elements, rules_in, value_of, policy}
use Rattle.ix_policy.specs.declared.{fault.{Field.Field, PolicyFault.PolicyFault}, request.{Request.Request, Verdict.Verdict}, rule.Rule.Rule}
use Rattle.ix_policy.specs.declared.fault.PolicyFault.TheVariants as fault

-- ---- a verdict
decided_step : (n most : ℕ) (allow b : Bool) (later : Verdict) → n + 1 ≤ most → later.rule ≤ most
    → (if b then record { rule = n + 1; allow = allow } else later).rule ≤ most
decided_step n most allow true later h k = h
decided_step n most allow false later h k = k

decided_from : (n : ℕ) (rules : List Rule) (q : Request) → (decide_from n rules q).rule ≤ n + length rules
unfolding decide_from
decided_from n [] q = omega arith
decided_from n (r ∷ rules) q =
    decided_step n (n + length (r ∷ rules)) r.allow (matches r q) (decide_from (n + 1) rules q) (omega arith)
    (omega (arith, decided_from (n + 1) rules q))

-- a verdict's number is at most that of the last rule
pub decided-few : (rules : List Rule) (q : Request) → (decide rules q).rule ≤ length rules
unfolding decide
decided-few rules q = omega (arith, decided_from 0 rules q)

-- ---- a policy
next_of : (rules more : List Rule) (found : Result Rule Field)
    → ◌≡◌ {A = Result (List Rule) PolicyFault} (elim found [ Ok r ↦ Ok (rules ++ r ∷ []) | Err f ↦ Err (fault.Rule (length rules + 1) f) ]) (Ok more) → length more ≡ length rules + 1
next_of rules more (Ok r) h =
    let same : rules ++ r ∷ [] ≡ more = cc in
    ap length (sym same) ∙ length-append rules (r ∷ [])
next_of rules more (Err f) h = cc

next_counted : (form : Form) (rules more : List Rule) (d : Data) → next_rules form rules d ≡ Ok more → length more ≡ length rules + 1
unfolding next_rules
next_counted form rules more d h = next_of rules more (rule_of form d) h

after_of : (form : Form) (ds : Items) (next : Result (List Rule) PolicyFault) (all : List Rule) (n : ℕ)
    → ((more : List Rule) → next ≡ Ok more → rules_after form more ds ≡ Ok all → length all ≡ n)
    → ◌≡◌ {A = Result (List Rule) PolicyFault} (elim next [ Ok more ↦ rules_after form more ds | Err e ↦ Err e ]) (Ok all) → length all ≡ n
after_of form ds (Ok more) all n rest h = rest more refl h
after_of form ds (Err e) all n rest h = cc

after_counted : (form : Form) (rules all : List Rule) (ds : Items) → rules_after form rules ds ≡ Ok all
    → length all ≡ length rules + items_len ds
unfolding rules_after
after_counted form rules all no_items h =
    let same : rules ≡ all = cc in let none : length all ≡ length rules = ap length (sym same) in omega (arith, none)
after_counted form rules all (item d ds) h =
    after_of form ds (next_rules form rules d) all (length rules + items_len (item d ds))
    (λ more is rest. let one =
    next_counted form rules more d is in let others = after_counted form more all ds rest in omega (arith, one, others)) h

few : (form : Form) (b : Bool) (ds : Items) (all : List Rule) → nat_le (items_len ds) 256 ≡ b
    → cond b (rules_after form [] ds) (Err fault.TooMany) ≡ Ok all → length all ≤ 256
few form true ds all is h = let counted = after_counted form [] all ds h in omega (arith, counted, leb-true (items_len ds) 256 is)
few form false ds all is h = cc

elements_few : (form : Form) (found : Option Items) (all : List Rule) → option_map_or (rules_of form) found (Err fault.Shape) ≡ Ok all
    → length all ≤ 256
unfolding rules_of
elements_few form None all h = cc
elements_few form (Some ds) all h = few form (nat_le (items_len ds) 256) ds all refl h

value_few : (form : Form) (value : Option Data) (all : List Rule) → option_map_or (rules_in form) value (Err fault.Syntax) ≡ Ok all
    → length all ≤ 256
unfolding rules_in
value_few form None all h = cc
value_few form (Some d) all h = elements_few form (elements d) all h

pub policy-few : (form : Form) (text : List ℕ) (all : List Rule) → policy form text ≡ Ok all → length all ≤ 256
unfolding policy
policy-few form text all h = value_few form (value_of text) all h
