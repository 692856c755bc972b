-- What holds of every call that a server asks for.
use Rattle.std.proofs.Common.{ℕ, List, false}
use Rattle.ix_label.specs.Category.{Categories}
use Rattle.ix_model.specs.{history.Events.Op, declared.{ids.Pid.Pid, reply.Reply.Reply}}
use Rattle.ix_model.specs.history.Events as op
use Rattle.ix_model.specs.declared.reply.Reply.TheVariants as reply
use Rattle.ix_policy.specs.declared.request.Verdict.{Verdict}
use Rattle.ix_asking.{specs.declared.serving.outcome.Outcome.Outcome, specs.Asking.{Asked, Asking}, proofs.Every.{AllOf, all-either, all-refused}}
use Rattle.ix_asking.specs.serving.Serving.{OnMessage, Server, claim, on_claim, on_verdict, read, tell, told_text}
use Rattle.ix_asking.specs.declared.serving.outcome.Outcome.TheVariants as outcome

-- the call gives no label
abbrev pub GivesNoLabel : Op → Type 0
GivesNoLabel (op.SetLabel path label) = ⊥
GivesNoLabel (op.SetSelf label) = ⊥
GivesNoLabel (op.SetCeiling target label) = ⊥
GivesNoLabel _ = Unit {0}

-- it holds of calls of the server's line that give no label
abbrev pub HoldsOfLine : (Asked → Type 0) → Server → Type 0
HoldsOfLine P s = (pid : ℕ) (o : Op) → GivesNoLabel o → P (record { line = s.line; pid = pid; op = o })

module _ (P : Asked → Type 0) (s : Server) (each : HoldsOfLine P s) where
  pub all-told : (o : Outcome) → AllOf P (tell s o)
  all-told o = (each s.pid (op.WriteFd s.fd (told_text o)) tt, λ a. (each s.pid (op.Unpex s.fd) tt, λ b. tt))

  pub all-decided : (allowed : ℕ → Asking Outcome) (verdict : Verdict) → ((rule : ℕ) → AllOf P (allowed rule))
      → AllOf P (on_verdict s allowed verdict)
  all-decided allowed verdict h = all-either Outcome P verdict.allow _ _ (h verdict.rule) (all-told (outcome.Denied verdict.rule false))

  all_read : (on : OnMessage) (client : Pid) (label : Categories) → ((message : List ℕ) → AllOf P (on client label message))
      → AllOf P (read s on client label)
  all_read on client label h = (each s.pid (op.ReadFd s.fd 64) tt, λ a. all-refused Outcome P a.reply _ _ (λ why. tt) (h a.bytes))

  on_reply : (on : OnMessage) (r : Reply) → ((client : Pid) (label : Categories) (message : List ℕ) → AllOf P (on client label message))
      → AllOf P (on_claim s on r)
  on_reply on (reply.No why) h = tt
  on_reply on (reply.Whole client label lic) h = all_read on client label (h client label)
  on_reply on _ h = tt

  pub all-claimed : (on : OnMessage) → ((client : Pid) (label : Categories) (message : List ℕ) → AllOf P (on client label message))
      → AllOf P (claim s on)
  all-claimed on h = (each s.pid (op.Pex s.fd) tt, λ a. on_reply on a.reply h)
