-- What both servers do.
use Rattle.std.specs.Prelude.{ℕ, Bool, true, false, if◌then◌else◌, List, [], ◌++◌, codes}
use Rattle.std.specs.Fmt.{decimal}
use Rattle.ix_label.specs.Category.{Categories}
use Rattle.ix_model.specs.history.Events.{Op}
use Rattle.ix_model.specs.history.Events as op
use Rattle.ix_model.specs.rows.Refusals.{number_of}
use Rattle.ix_model.specs.declared.ids.Pid.{Pid}
use Rattle.ix_model.specs.declared.refusal.Refusal.{Refusal}
use Rattle.ix_model.specs.declared.reply.Reply.{Reply}
use Rattle.ix_model.specs.declared.reply.Reply.TheVariants as reply
use Rattle.ix_policy.specs.declared.request.Verdict.{Verdict}
use Rattle.ix_asking.specs.declared.serving.outcome.Outcome.{Outcome}
use Rattle.ix_asking.specs.declared.serving.outcome.Outcome.TheVariants as outcome
use Rattle.ix_asking.specs.Asking.{Answered, Asking, Done, Ask}

-- the line in which it serves, the server's process, and its end of the pipe
pub record Server : Type 0 where
  pub line : ℕ
  pub pid : ℕ
  pub fd : ℕ

-- a process asks for a call
abbrev pub asks : Server → ℕ → Op → (Answered → Asking Outcome) → Asking Outcome
asks s pid o more = Ask (record { line = s.line; pid = pid; op = o }) more

-- what comes of a call: one thing where it is refused, and another where it isn't
abbrev pub if_refused : {X : Type 0} → Reply → (Refusal → X) → X → X
if_refused (reply.No why) refused passed = refused why
if_refused _ refused passed = passed

-- ---- to tell
-- what the client is told
abbrev pub told_text : Outcome → List ℕ
told_text (outcome.Granted rule who told) = codes "granted " ++ decimal rule
told_text (outcome.Denied rule told) = codes "denied " ++ decimal rule
told_text (outcome.BadRequest at told) = codes "bad " ++ decimal at
told_text (outcome.Refused why step) = codes "refused " ++ decimal (number_of why)
told_text outcome.NotPrivate = []

-- an outcome with whether the client was told
abbrev pub when_told : Outcome → Bool → Outcome
when_told (outcome.Granted rule who _) told = outcome.Granted rule who told
when_told (outcome.Denied rule _) told = outcome.Denied rule told
when_told (outcome.BadRequest at _) told = outcome.BadRequest at told
when_told o told = o

-- it gives its claim up
abbrev pub unclaim : Server → Outcome → Asking Outcome
unclaim s o = asks s s.pid (op.Unpex s.fd) (λ a. Done o)

-- it writes these bytes, and gives its claim up whether the write was refused or not
abbrev pub write : Server → List ℕ → Outcome → Asking Outcome
write s text o = asks s s.pid (op.WriteFd s.fd text) (λ a. unclaim s (when_told o (if_refused a.reply (λ why. false) true)))

-- it tells the client what has come, and gives its claim up
abbrev pub tell : Server → Outcome → Asking Outcome
tell s o = write s (told_text o) o

-- ---- steps 1 and 2
-- what is to be done with a message, by who the client is and its label
abbrev pub OnMessage : Type 0
OnMessage = Pid → Categories → List ℕ → Asking Outcome

-- step 2: it reads the message
abbrev pub read : Server → OnMessage → Pid → Categories → Asking Outcome
read s on_message client label =
    asks s s.pid (op.ReadFd s.fd 64) (λ a. if_refused a.reply (λ why. Done (outcome.Refused why 2)) (on_message client label a.bytes))

abbrev pub on_claim : Server → OnMessage → Reply → Asking Outcome
on_claim s on_message (reply.No why) = Done (outcome.Refused why 1)
on_claim s on_message (reply.Whole client label lic) = read s on_message client label
on_claim s on_message _ = Done outcome.NotPrivate

-- step 1: it claims its end
abbrev pub claim : Server → OnMessage → Asking Outcome
claim s on_message = asks s s.pid (op.Pex s.fd) (λ a. on_claim s on_message a.reply)

-- ---- step 3
-- a verdict that allows goes on with the rule; one that doesn't is told
abbrev pub on_verdict : Server → (ℕ → Asking Outcome) → Verdict → Asking Outcome
on_verdict s allowed verdict = if verdict.allow then allowed verdict.rule else tell s (outcome.Denied verdict.rule false)
