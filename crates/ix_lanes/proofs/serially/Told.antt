-- The rules by which a script's servers serve.
use Rattle.std.proofs.Common.{◌≡◌, ℕ, zero, suc, ◌≤◌, List, length, Option, Some, None, Result, Ok, Err, option_and_then, refl, slice_get, subst}
use Rattle.std.{specs.{Prelude.IfSome, Option.option_map_or}, proofs.lemmas.{List.Elements.All-get_or, Option.{slice_get_within, get_or_from_slice_get}}}
use Rattle.ix_label.{specs.{declared.form.Form.Form, Category.bottom, Forms.Fits}, proofs.Fitting.{within-bottom, within-fits}}
use Rattle.ix_policy.specs.{Policies.{RulesFit, policy}, declared.{fault.PolicyFault.PolicyFault, rule.Rule.Rule}}
use Rattle.ix_policy.proofs.{Counting.policy-few, Fitting.policy_fits}
use Rattle.ix_script.specs.{lines.Before.form_told, scripts.Scripts.policy_of, declared.line.Line.Line}
use Rattle.ix_sessserv.specs.Serving.{clear_of}
use Rattle.ix_lanes.specs.asking.Ruled.{rules_told, unless_refused}

-- ---- what holds of the rules of each policy
module _ (Q : List Rule → Type 0) (s : List Line) (each : (text : List ℕ) (rules : List Rule) → policy (form_told s) text ≡ Ok rules → Q rules) where
  of_policy : (text : List ℕ) (found : Result (List Rule) PolicyFault) → policy (form_told s) text ≡ found → IfSome (unless_refused found) Q
  of_policy text (Ok rules) is = each text rules is
  of_policy text (Err fault) is = tt

  of_text : (found : Option (ℕ × List ℕ)) → IfSome (option_and_then (λ p. unless_refused (policy (form_told s) p.1)) found) Q
  of_text None = tt
  of_text (Some p) = of_policy p.1 (policy (form_told s) p.1) refl

  all_told : IfSome (rules_told s) Q
  unfolding rules_told
  all_told = of_text (policy_of s)

  pub told-all : (rules : List Rule) → rules_told s ≡ Some rules → Q rules
  told-all rules is = let P : Option (List Rule) → Type 0 = λ o. IfSome o Q in subst P is all_told

-- there are 256 at the most
pub rules-few : (s : List Line) (rules : List Rule) → rules_told s ≡ Some rules → length rules ≤ 256
rules-few s = told-all (λ rules. length rules ≤ 256) s (λ text rules is. policy-few (form_told s) text rules is)

-- the form that the script tells has a text for the label of each rule
rules_fit : (s : List Line) (rules : List Rule) → rules_told s ≡ Some rules → RulesFit (form_told s) rules
rules_fit s = told-all (λ rules. RulesFit (form_told s) rules) s (λ text rules is. policy_fits (form_told s) text rules is)

-- ---- the label of a rule
clear_there : (form : Form) (rules : List Rule) (i : ℕ) (found : Option Rule) → slice_get rules i ≡ found → RulesFit form rules
    → Fits form (option_map_or (λ (r : Rule). r.clear) found bottom)
clear_there form rules i None is fit = within-fits form bottom (within-bottom form)
clear_there form rules i (Some r) is fit =
    let P : Rule → Type 0 = λ x. Fits form x.clear in
    subst P (get_or_from_slice_get rules i r r is) (All-get_or P rules i r (slice_get_within rules i r is) fit)

clear_fits : (form : Form) (rules : List Rule) (rule : ℕ) → RulesFit form rules → Fits form (clear_of rules rule)
clear_fits form rules zero fit = within-fits form bottom (within-bottom form)
clear_fits form rules (suc i) fit = clear_there form rules i (slice_get rules i) refl fit

pub told-clear : (s : List Line) (rules : List Rule) → rules_told s ≡ Some rules → (rule : ℕ) → Fits (form_told s) (clear_of rules rule)
told-clear s rules is rule = clear_fits (form_told s) rules rule (rules_fit s rules is)
