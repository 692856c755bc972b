-- Nothing private comes of half a claim alone.
use Rattle.std.proofs.Common.{ℕ, Bool, true, false, List, Option, Some, None, if◌then◌else◌}
use Rattle.ix_label.specs.Category.{Categories}
use Rattle.ix_model.specs.{world.Privs.is_empty, declared.{ids.{Fd.Fd, Pid.Pid}, refusal.Refusal.Refusal}}
use Rattle.ix_policy.specs.{Deciding.decide, declared.rule.Rule.Rule}
use Rattle.ix_policy.specs.declared.request.Request.TheVariants as request
use Rattle.ix_asking.specs.serving.{Privately.NotPrivateAtHalf, Serving.Server}
use Rattle.ix_asking.proofs.Privacy.{OnlyComes, Other, bad-other, either, granted-other, private-at-claim, refused-other, verdict-other}
use Rattle.ix_sessserv.specs.{Messages.{bad_at, user_in}, Serving.{child_in, fork, give_up, grant_rest, on_message, on_user, privs_of, serves, succeed}}

give_up_other : (s : Server) (child : Pid) (why : Refusal) (step : ℕ) → OnlyComes Other (give_up s child why step)
give_up_other s child why step = λ a. refused-other s why step

rest_other : (rules : List Rule) (s : Server) (child : Pid) (rule : ℕ) → OnlyComes Other (grant_rest rules s child rule)
rest_other rules s child rule = λ a. either a.reply _ _ Other (λ why. give_up_other s child why 7) (granted-other s child rule)

if_any_other : (rules : List Rule) (s : Server) (child : Pid) (rule : ℕ) (none : Bool)
    → OnlyComes Other (if none then succeed s child rule else grant_rest rules s child rule)
if_any_other rules s child rule true = granted-other s child rule
if_any_other rules s child rule false = rest_other rules s child rule

fork_other : (rules : List Rule) (s : Server) (hand : Fd) (rule : ℕ) → OnlyComes Other (fork rules s hand rule)
fork_other rules s hand rule =
    λ a. either a.reply _ _ Other (λ why. refused-other s why 4)
    (λ b. either b.reply _ _ Other (λ why. give_up_other s (child_in a.reply) why 5)
    (λ c. either c.reply _ _ Other (λ why. give_up_other s (child_in a.reply) why 6)
    (if_any_other rules s (child_in a.reply) rule (is_empty (privs_of rules rule)))))

user_other : (rules : List Rule) (s : Server) (hand : Fd) (label : Categories) (message : List ℕ) (user : Option (List ℕ))
    → OnlyComes Other (on_user rules s hand label message user)
user_other rules s hand label message None = bad-other s (bad_at message)
user_other rules s hand label message (Some user) =
    verdict-other s (fork rules s hand) (decide rules (request.Session user label)) (fork_other rules s hand)

pub private-at-half : (rules : List Rule) (s : Server) (hand : Fd) → NotPrivateAtHalf s (serves rules s hand)
private-at-half rules s hand =
    private-at-claim s (on_message rules s hand) (λ client label message. user_other rules s hand label message (user_in message))
