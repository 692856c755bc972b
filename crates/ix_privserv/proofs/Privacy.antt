-- Nothing private comes of half a claim alone.
use Rattle.std.proofs.Common.{ℕ, List, Option, Some, None}
use Rattle.ix_label.specs.Category.{Categories}
use Rattle.ix_model.specs.declared.{ids.Pid.Pid, privs.PrivSet.PrivSet}
use Rattle.ix_policy.specs.{Deciding.decide, declared.rule.Rule.Rule}
use Rattle.ix_policy.specs.declared.request.Request.TheVariants as request
use Rattle.ix_asking.specs.serving.{Privately.NotPrivateAtHalf, Serving.Server}
use Rattle.ix_asking.proofs.Privacy.{OnlyComes, Other, bad-other, either, granted-other, private-at-claim, refused-other, verdict-other}
use Rattle.ix_privserv.specs.{Messages.{bad_at, wanted}, Serving.{grant, on_message, on_want, serves}}

want_other : (rules : List Rule) (s : Server) (client : Pid) (label : Categories) (message : List ℕ) (want : Option PrivSet)
    → OnlyComes Other (on_want rules s client label message want)
want_other rules s client label message None = bad-other s (bad_at message)
want_other rules s client label message (Some want) =
    verdict-other s (grant s client want) (decide rules (request.Grant label want))
    (λ rule a. either a.reply _ _ Other (λ why. refused-other s why 4) (granted-other s client rule))

pub private-at-half : (rules : List Rule) (s : Server) → NotPrivateAtHalf s (serves rules s)
private-at-half rules s = private-at-claim s (on_message rules s) (λ client label message. want_other rules s client label message (wanted message))
