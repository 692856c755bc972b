-- The privilege server.
use Rattle.std.specs.Prelude.{ℕ, false, List, Option, Some, None}
use Rattle.ix_label.specs.Category.{Categories}
use Rattle.ix_model.specs.history.Events as op
use Rattle.ix_model.specs.declared.ids.Pid.{Pid}
use Rattle.ix_model.specs.declared.privs.PrivSet.{PrivSet}
use Rattle.ix_policy.specs.Deciding.{decide}
use Rattle.ix_policy.specs.declared.request.Request.TheVariants as request
use Rattle.ix_policy.specs.declared.rule.Rule.{Rule}
use Rattle.ix_asking.specs.Asking.{Asking}
use Rattle.ix_asking.specs.declared.serving.outcome.Outcome.{Outcome}
use Rattle.ix_asking.specs.declared.serving.outcome.Outcome.TheVariants as outcome
use Rattle.ix_asking.specs.serving.Serving.{Server, asks, if_refused, tell, claim, on_verdict}
use Rattle.ix_privserv.specs.Messages.{bad_at, wanted}

-- step 4: it grants the client what it wants
abbrev pub grant : Server → Pid → PrivSet → ℕ → Asking Outcome
grant s client want rule =
    asks s s.pid (op.GrantLic client.0 want) (λ a. if_refused a.reply (λ why. tell s (outcome.Refused why 4)) (tell s (outcome.Granted rule client false)))

-- step 3: it tells how far the message is a request, or decides on what it wants
abbrev pub on_want : List Rule → Server → Pid → Categories → List ℕ → Option PrivSet → Asking Outcome
on_want rules s client label message None = tell s (outcome.BadRequest (bad_at message) false)
on_want rules s client label message (Some want) = on_verdict s (grant s client want) (decide rules (request.Grant label want))

abbrev pub on_message : List Rule → Server → Pid → Categories → List ℕ → Asking Outcome
on_message rules s client label message = on_want rules s client label message (wanted message)

-- what the privilege server asks for
abbrev pub serves : List Rule → Server → Asking Outcome
serves rules s = claim s (on_message rules s)
