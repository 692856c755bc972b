-- How many calls the privilege server asks for at most.
use Rattle.std.proofs.Common.{ℕ, false, List, Option, Some, None, arith}
use Rattle.ix_label.specs.Category.{Categories}
use Rattle.ix_model.specs.declared.{ids.Pid.Pid, privs.PrivSet.PrivSet}
use Rattle.ix_policy.specs.{Deciding.decide, declared.rule.Rule.Rule}
use Rattle.ix_policy.specs.declared.request.Request.TheVariants as request
use Rattle.ix_asking.specs.{declared.serving.outcome.Outcome.Outcome, serving.Serving.Server}
use Rattle.ix_asking.proofs.Few.{Few, few-claimed, few-decided, few-refused, few-told}
use Rattle.ix_asking.specs.declared.serving.outcome.Outcome.TheVariants as outcome
use Rattle.ix_privserv.specs.{Messages.{bad_at, wanted}, Serving.{grant, on_want, on_message, serves}}

module _ (s : Server) where
  few_granted : (client : Pid) (want : PrivSet) (rule : ℕ) → Few 3 (grant s client want rule)
  few_granted client want rule =
      λ a. few-refused Outcome 2 a.reply _ _ (λ why. few-told s 2 (outcome.Refused why 4) (omega arith))
      (few-told s 2 (outcome.Granted rule client false) (omega arith))

  few_wanted : (rules : List Rule) (client : Pid) (label : Categories) (message : List ℕ) (found : Option PrivSet)
      → Few 3 (on_want rules s client label message found)
  few_wanted rules client label message None = few-told s 3 (outcome.BadRequest (bad_at message) false) (omega arith)
  few_wanted rules client label message (Some want) =
      few-decided s 3 (grant s client want) (decide rules (request.Grant label want)) (omega arith) (few_granted client want)

  -- at most five
  pub few-served : (rules : List Rule) → Few 5 (serves rules s)
  few-served rules =
      few-claimed s 3 (on_message rules s)
      (λ client label message. few_wanted rules client label message (wanted message))
