-- How many calls the session server asks for at most.
use Rattle.std.proofs.Common.{ℕ, ◌≤◌, false, List, Option, Some, None, arith}
use Rattle.ix_label.specs.Category.{Categories}
use Rattle.ix_model.specs.{world.Privs.is_empty, declared.{ids.{Fd.Fd, Pid.Pid}, refusal.Refusal.Refusal}}
use Rattle.ix_policy.specs.{Deciding.decide, declared.rule.Rule.Rule}
use Rattle.ix_policy.specs.declared.request.Request.TheVariants as request
use Rattle.ix_asking.specs.{declared.serving.outcome.Outcome.Outcome, serving.Serving.Server}
use Rattle.ix_asking.proofs.Few.{Few, few-claimed, few-decided, few-either, few-more, few-refused, few-told}
use Rattle.ix_asking.specs.declared.serving.outcome.Outcome.TheVariants as outcome
use Rattle.ix_sessserv.specs.Messages.{bad_at, user_in}
use Rattle.ix_sessserv.specs.Serving.{child_in, drop_all, fork, give_up, grant_if_any, grant_rest, on_message, on_user, privs_of, serves, set_ceiling}

module _ (s : Server) where
  few_given_up : (n : ℕ) (child : Pid) (why : Refusal) (step : ℕ) → 3 ≤ n → Few n (give_up s child why step)
  few_given_up n child why step le =
      few-more Outcome 3 n (give_up s child why step) le (λ a. few-told s 2 (outcome.Refused why step) (omega arith))

  few_rest : (rules : List Rule) (child : Pid) (rule : ℕ) → Few 4 (grant_rest rules s child rule)
  few_rest rules child rule =
      λ a. few-refused Outcome 3 a.reply _ _ (λ why. few_given_up 3 child why 7 (omega arith))
      (few-told s 3 (outcome.Granted rule child false) (omega arith))

  few_any : (rules : List Rule) (child : Pid) (rule : ℕ) → Few 4 (grant_if_any rules s child rule)
  few_any rules child rule =
      few-either Outcome 4 (is_empty (privs_of rules rule)) _ _ (few-told s 4 (outcome.Granted rule child false) (omega arith))
      (few_rest rules child rule)

  few_ceiling : (rules : List Rule) (child : Pid) (rule : ℕ) → Few 5 (set_ceiling rules s child rule)
  few_ceiling rules child rule =
      λ a. few-refused Outcome 4 a.reply _ _ (λ why. few_given_up 4 child why 6 (omega arith)) (few_any rules child rule)

  few_dropped : (rules : List Rule) (child : Pid) (rule : ℕ) → Few 6 (drop_all rules s child rule)
  few_dropped rules child rule =
      λ a. few-refused Outcome 5 a.reply _ _ (λ why. few_given_up 5 child why 5 (omega arith)) (few_ceiling rules child rule)

  few_forked : (rules : List Rule) (hand : Fd) (rule : ℕ) → Few 7 (fork rules s hand rule)
  few_forked rules hand rule =
      λ a. few-refused Outcome 6 a.reply _ _ (λ why. few-told s 6 (outcome.Refused why 4) (omega arith))
      (few_dropped rules (child_in a.reply) rule)

  few_user : (rules : List Rule) (hand : Fd) (label : Categories) (message : List ℕ) (found : Option (List ℕ))
      → Few 7 (on_user rules s hand label message found)
  few_user rules hand label message None = few-told s 7 (outcome.BadRequest (bad_at message) false) (omega arith)
  few_user rules hand label message (Some user) =
      few-decided s 7 (fork rules s hand) (decide rules (request.Session user label)) (omega arith) (few_forked rules hand)

  -- at most nine
  pub few-served : (rules : List Rule) (hand : Fd) → Few 9 (serves rules s hand)
  few-served rules hand =
      few-claimed s 7 (on_message rules s hand)
      (λ client label message. few_user rules hand label message (user_in message))
