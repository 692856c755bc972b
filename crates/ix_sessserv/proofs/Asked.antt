-- What holds of every call that the session server asks for, and what its calls cost.
use Rattle.std.proofs.Common.{ℕ, ◌≤◌, false, List, length, Option, Some, None, arith}
use Rattle.ix_label.specs.Category.{Categories}
use Rattle.ix_model.specs.{history.Cost.cost_of, world.Privs.is_empty, declared.{ids.{Fd.Fd, Pid.Pid}, refusal.Refusal.Refusal}}
use Rattle.ix_model.specs.history.Events as op
use Rattle.ix_model.specs.declared.call.Keep.TheVariants as keep
use Rattle.ix_policy.{specs.{Deciding.decide, declared.rule.Rule.Rule}, proofs.Counting.decided-few}
use Rattle.ix_policy.specs.declared.request.Request.TheVariants as request
use Rattle.ix_asking.specs.{Asking.Asked, declared.serving.outcome.Outcome.Outcome, serving.Serving.Server}
use Rattle.ix_asking.proofs.{Every.{AllOf, all-either, all-refused}, Serves.{HoldsOfLine, all-claimed, all-decided, all-told}}
use Rattle.ix_asking.specs.declared.serving.outcome.Outcome.TheVariants as outcome
use Rattle.ix_asking.proofs.Costs.{Costs, bad-costs, claim-costs, costs-either, costs-refused, granted-few, refused-few, tell-costs, told-costs, verdict-costs}
use Rattle.ix_sessserv.specs.Messages.{bad_at, begins_request, user_in}
use Rattle.ix_sessserv.specs.Serving.{all_five, child_in, clear_of, drop_all, fork, give_up, grant_if_any, grant_rest, on_message, on_user, privs_of, serves}
use Rattle.ix_sessserv.specs.Serving.{set_ceiling, succeed}

-- it holds of the calls that set a ceiling to the label of a rule
abbrev pub HoldsOfCeilings : (Asked → Type 0) → Server → List Rule → Type 0
HoldsOfCeilings P s rules = (target rule : ℕ) → P (record { line = s.line; pid = s.pid; op = op.SetCeiling target (clear_of rules rule) })

-- ---- every call
module _ (P : Asked → Type 0) (s : Server) (each : HoldsOfLine P s) (rules : List Rule) (ceilings : HoldsOfCeilings P s rules) where
  all_given_up : (child : Pid) (why : Refusal) (step : ℕ) → AllOf P (give_up s child why step)
  all_given_up child why step = (each child.0 (op.Exit 255) tt, λ a. all-told P s each (outcome.Refused why step))

  module _ (child : Pid) (rule : ℕ) where
    all_rest : AllOf P (grant_rest rules s child rule)
    all_rest = (
      each s.pid (op.GrantLic child.0 (privs_of rules rule)) tt,
      λ a. all-refused Outcome P a.reply _ _ (λ why. all_given_up child why 7) (all-told P s each (outcome.Granted rule child false)),
    )

    all_any : AllOf P (grant_if_any rules s child rule)
    all_any = all-either Outcome P (is_empty (privs_of rules rule)) _ _ (all-told P s each (outcome.Granted rule child false)) all_rest

    all_ceiling : AllOf P (set_ceiling rules s child rule)
    all_ceiling = (ceilings child.0 rule, λ a. all-refused Outcome P a.reply _ _ (λ why. all_given_up child why 6) all_any)

    all_dropped : AllOf P (drop_all rules s child rule)
    all_dropped = (each child.0 (op.DropLic all_five) tt, λ a. all-refused Outcome P a.reply _ _ (λ why. all_given_up child why 5) all_ceiling)

  all_forked : (hand : Fd) (rule : ℕ) → AllOf P (fork rules s hand rule)
  all_forked hand rule = (
    each s.pid (op.Fork (keep.One hand)) tt,
    λ a. all-refused Outcome P a.reply _ _
        (λ why. all-told P s each (outcome.Refused why 4)) (all_dropped (child_in a.reply) rule),
  )

  all_user : (hand : Fd) (label : Categories) (message : List ℕ) (found : Option (List ℕ))
      → AllOf P (on_user rules s hand label message found)
  all_user hand label message None = all-told P s each (outcome.BadRequest (bad_at message) false)
  all_user hand label message (Some user) =
      all-decided P s each (fork rules s hand) (decide rules (request.Session user label)) (all_forked hand)

  pub all-served : (hand : Fd) → AllOf P (serves rules s hand)
  all-served hand = all-claimed P s each (on_message rules s hand) (λ client label message. all_user hand label message (user_in message))

-- ---- what they cost
module _ (rules : List Rule) (few : length rules ≤ 256) (s : Server) where
  given_up_costs : (child : Pid) (why : Refusal) (step m : ℕ) → 400 ≤ m → Costs m (give_up s child why step)
  unfolding cost_of
  given_up_costs child why step m h = (272, omega (arith, h), λ a read. tell-costs s (outcome.Refused why step) (refused-few why step))

  module _ (child : Pid) (rule : ℕ) (low : rule ≤ 256) where
    success_costs : (m : ℕ) → 272 ≤ m → Costs m (succeed s child rule)
    success_costs m h = told-costs s (outcome.Granted rule child false) m h (granted-few rule child false (omega (arith, low)))

    rest_costs : Costs 528 (grant_rest rules s child rule)
    unfolding cost_of
    rest_costs = (400, omega arith, λ a read. costs-refused Outcome 400 a.reply _ _ (λ why. given_up_costs child why 7 400 (omega arith)) (success_costs 400 (omega arith)))

    any_costs : Costs 528 (grant_if_any rules s child rule)
    any_costs = costs-either Outcome 528 (is_empty (privs_of rules rule)) (succeed s child rule) (grant_rest rules s child rule) (success_costs 528 (omega arith)) rest_costs

    ceiling_costs : Costs 656 (set_ceiling rules s child rule)
    unfolding cost_of
    ceiling_costs = (528, omega arith, λ a read. costs-refused Outcome 528 a.reply _ _ (λ why. given_up_costs child why 6 528 (omega arith)) any_costs)

    dropped_costs : Costs 784 (drop_all rules s child rule)
    unfolding cost_of
    dropped_costs = (656, omega arith, λ a read. costs-refused Outcome 656 a.reply _ _ (λ why. given_up_costs child why 5 656 (omega arith)) ceiling_costs)

  fork_costs : (hand : Fd) (rule : ℕ) → rule ≤ 256 → Costs 912 (fork rules s hand rule)
  unfolding cost_of
  fork_costs hand rule low = (
    784,
    omega arith,
    λ a read. costs-refused Outcome 784 a.reply _ _ (λ why. told-costs s (outcome.Refused why 4) 784 (omega arith) (refused-few why 4)) (dropped_costs (child_in a.reply) rule low),
  )

  user_costs : (hand : Fd) (label : Categories) (message : List ℕ) (found : Option (List ℕ)) → length message ≤ 64
      → Costs 912 (on_user rules s hand label message found)
  user_costs hand label message None short = bad-costs s begins_request message 912 (omega arith) short
  user_costs hand label message (Some user) short =
      let low = decided-few rules (request.Session user label) in
      verdict-costs s (fork rules s hand) (decide rules (request.Session user label)) 912 (omega arith) (omega (arith, low, few))
      (fork_costs hand (decide rules (request.Session user label)).rule (omega (arith, low, few)))

  -- nine entries with 16 bytes
  pub serve-costs : (hand : Fd) → Costs 1168 (serves rules s hand)
  serve-costs hand =
      claim-costs s (on_message rules s hand) 912 (λ client label message short. user_costs hand label message (user_in message) short)
