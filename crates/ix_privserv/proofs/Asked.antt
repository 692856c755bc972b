-- What holds of every call that the privilege server asks for, and what its calls cost.
use Rattle.std.proofs.Common.{ℕ, ◌≤◌, false, List, length, Option, Some, None, arith}
use Rattle.ix_label.specs.Category.{Categories}
use Rattle.ix_model.specs.{history.Cost.cost_of, declared.{ids.Pid.Pid, privs.PrivSet.PrivSet}}
use Rattle.ix_model.specs.history.Events as op
use Rattle.ix_policy.{specs.{Deciding.decide, declared.rule.Rule.Rule}, proofs.Counting.decided-few}
use Rattle.ix_policy.specs.declared.request.Request.TheVariants as request
use Rattle.ix_asking.specs.{Asking.Asked, declared.serving.outcome.Outcome.Outcome, serving.Serving.Server}
use Rattle.ix_asking.proofs.{Every.{AllOf, all-refused}, Serves.{HoldsOfLine, all-claimed, all-decided, all-told}}
use Rattle.ix_asking.specs.declared.serving.outcome.Outcome.TheVariants as outcome
use Rattle.ix_asking.proofs.Costs.{Costs, bad-costs, claim-costs, costs-refused, granted-few, refused-few, tell-costs, verdict-costs}
use Rattle.ix_privserv.specs.{Messages.{bad_at, begins_request, wanted}, Serving.{grant, on_want, on_message, serves}}

-- ---- every call
module _ (P : Asked → Type 0) (s : Server) (each : HoldsOfLine P s) where
  all_granted : (client : Pid) (want : PrivSet) (rule : ℕ) → AllOf P (grant s client want rule)
  all_granted client want rule = (
    each s.pid (op.GrantLic client.0 want) tt,
    λ a. all-refused Outcome P a.reply _ _
        (λ why. all-told P s each (outcome.Refused why 4)) (all-told P s each (outcome.Granted rule client false)),
  )

  all_wanted : (rules : List Rule) (client : Pid) (label : Categories) (message : List ℕ) (found : Option PrivSet)
      → AllOf P (on_want rules s client label message found)
  all_wanted rules client label message None = all-told P s each (outcome.BadRequest (bad_at message) false)
  all_wanted rules client label message (Some want) =
      all-decided P s each (grant s client want) (decide rules (request.Grant label want)) (all_granted client want)

  pub all-served : (rules : List Rule) → AllOf P (serves rules s)
  all-served rules =
      all-claimed P s each (on_message rules s) (λ client label message. all_wanted rules client label message (wanted message))

-- ---- what they cost
module _ (rules : List Rule) (few : length rules ≤ 256) (s : Server) where
  grant_costs : (client : Pid) (want : PrivSet) (rule : ℕ) → rule ≤ 256 → Costs 400 (grant s client want rule)
  unfolding cost_of
  grant_costs client want rule low =
      let granted = tell-costs s (outcome.Granted rule client false) (granted-few rule client false (omega (arith, low))) in
      (272, omega arith, λ a read. costs-refused Outcome 272 a.reply _ _ (λ why. tell-costs s (outcome.Refused why 4) (refused-few why 4)) granted)

  want_costs : (client : Pid) (label : Categories) (message : List ℕ) (found : Option PrivSet) → length message ≤ 64
      → Costs 400 (on_want rules s client label message found)
  want_costs client label message None short = bad-costs s begins_request message 400 (omega arith) short
  want_costs client label message (Some want) short =
      let low = decided-few rules (request.Grant label want) in
      verdict-costs s (grant s client want) (decide rules (request.Grant label want)) 400 (omega arith) (omega (arith, low, few))
      (grant_costs client want (decide rules (request.Grant label want)).rule (omega (arith, low, few)))

  -- five entries with 16 bytes
  pub serve-costs : Costs 656 (serves rules s)
  serve-costs =
      claim-costs s (on_message rules s) 400 (λ client label message short. want_costs client label message (wanted message) short)
