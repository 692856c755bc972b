-- The session server.
use Rattle.std.specs.Prelude.{ℕ, nat_lt, false, if◌then◌else◌, List, Option, Some, None}
use Rattle.std.specs.Option.{option_map_or}
use Rattle.ix_label.specs.Category.{Categories, bottom}
use Rattle.ix_model.specs.history.Events as op
use Rattle.ix_model.specs.world.Privs.{is_empty, no_privileges}
use Rattle.ix_model.specs.declared.call.Keep.TheVariants as keep
use Rattle.ix_model.specs.declared.ids.Fd.{Fd}
use Rattle.ix_model.specs.declared.ids.Pid.{Pid}
use Rattle.ix_model.specs.declared.privs.PrivSet.{PrivSet}
use Rattle.ix_model.specs.declared.refusal.Refusal.{Refusal}
use Rattle.ix_model.specs.declared.reply.Reply.{Reply}
use Rattle.ix_model.specs.declared.reply.Reply.TheVariants as reply
use Rattle.ix_policy.specs.Deciding.{decide, numbered}
use Rattle.ix_policy.specs.declared.request.Request.TheVariants as request
use Rattle.ix_policy.specs.declared.rule.Rule.{Rule}
use Rattle.ix_asking.specs.Asking.{Asking}
use Rattle.ix_asking.specs.declared.serving.outcome.Outcome.{Outcome}
use Rattle.ix_asking.specs.declared.serving.outcome.Outcome.TheVariants as outcome
use Rattle.ix_asking.specs.serving.Serving.{Server, asks, if_refused, tell, claim, on_verdict}
use Rattle.ix_sessserv.specs.Messages.{bad_at, user_in}

-- all five privileges
abbrev pub all_five : PrivSet
all_five = record { 0 = 31 }

-- the label of a rule and its privileges; a rule that allows is there, so the other case never comes
abbrev pub clear_of : List Rule → ℕ → Categories
clear_of rules rule = option_map_or (λ r. r.clear) (numbered rules rule) bottom

abbrev pub privs_of : List Rule → ℕ → PrivSet
privs_of rules rule = option_map_or (λ r. r.privs) (numbered rules rule) no_privileges

-- the child that a fork's reply says; pid 0, which never lives, where it says none
abbrev pub child_in : Reply → Pid
child_in (reply.Number n) = record { 0 = if nat_lt 4294967295 n then 0 else n }
child_in _ = record { 0 = 0 }

-- step 8, after a refusal in 5 to 7: the child ends, and the client is told of that refusal
abbrev pub give_up : Server → Pid → Refusal → ℕ → Asking Outcome
give_up s child why step = asks s child.0 (op.Exit 255) (λ a. tell s (outcome.Refused why step))

-- step 8, after none
abbrev pub succeed : Server → Pid → ℕ → Asking Outcome
succeed s child rule = tell s (outcome.Granted rule child false)

-- step 7: it grants the child the rule's privileges, if there are any
abbrev pub grant_rest : List Rule → Server → Pid → ℕ → Asking Outcome
grant_rest rules s child rule =
    asks s s.pid (op.GrantLic child.0 (privs_of rules rule)) (λ a. if_refused a.reply (λ why. give_up s child why 7) (succeed s child rule))

abbrev pub grant_if_any : List Rule → Server → Pid → ℕ → Asking Outcome
grant_if_any rules s child rule = if is_empty (privs_of rules rule) then succeed s child rule else grant_rest rules s child rule

-- step 6: it sets the child's ceiling to the rule's label
abbrev pub set_ceiling : List Rule → Server → Pid → ℕ → Asking Outcome
set_ceiling rules s child rule =
    asks s s.pid (op.SetCeiling child.0 (clear_of rules rule)) (λ a. if_refused a.reply (λ why. give_up s child why 6) (grant_if_any rules s child rule))

-- step 5: the child drops all licences
abbrev pub drop_all : List Rule → Server → Pid → ℕ → Asking Outcome
drop_all rules s child rule =
    asks s child.0 (op.DropLic all_five) (λ a. if_refused a.reply (λ why. give_up s child why 5) (set_ceiling rules s child rule))

-- step 4: it forks a child that gets one descriptor
abbrev pub fork : List Rule → Server → Fd → ℕ → Asking Outcome
fork rules s hand rule =
    asks s s.pid (op.Fork (keep.One hand)) (λ a. if_refused a.reply (λ why. tell s (outcome.Refused why 4)) (drop_all rules s (child_in a.reply) rule))

-- step 3: it tells how far the message is a request, or decides on the session of the user
abbrev pub on_user : List Rule → Server → Fd → Categories → List ℕ → Option (List ℕ) → Asking Outcome
on_user rules s hand label message None = tell s (outcome.BadRequest (bad_at message) false)
on_user rules s hand label message (Some user) = on_verdict s (fork rules s hand) (decide rules (request.Session user label))

abbrev pub on_message : List Rule → Server → Fd → Pid → Categories → List ℕ → Asking Outcome
on_message rules s hand client label message = on_user rules s hand label message (user_in message)

-- what the session server asks for, where a child gets the descriptor `hand`
abbrev pub serves : List Rule → Server → Fd → Asking Outcome
serves rules s hand = claim s (on_message rules s hand)
