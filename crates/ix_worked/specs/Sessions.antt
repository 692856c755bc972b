-- What a session shows: what each of its entries gives, and the labels and the audit log at its end.
use Rattle.std.specs.Prelude.{◌≡◌, ℕ, suc, List, [], ◌∷◌, map, Option, Some, None}
use Rattle.std.proofs.Common.{option_map}
use Rattle.ix_label.specs.Category.{Categories}
use Rattle.ix_model.specs.world.World.{World, at}
use Rattle.ix_model.specs.opening.Opening.{opening_world}
use Rattle.ix_model.specs.history.Step.{Given, step_of, run}
use Rattle.ix_model.specs.history.AuditLog.{audit_log}
use Rattle.ix_model.specs.history.Events.{Event}
use Rattle.ix_model.specs.declared.audit.AuditLine.{AuditLine}
use Rattle.ix_model.specs.declared.config.Config.{Config}
use Rattle.ix_model.specs.declared.reply.Reply.{Reply}

-- an entry's reply and bytes, and the caller's label after it
pub record Line : Type 0 where
  pub reply : Reply
  pub bytes : List ℕ
  pub label : Option Categories

-- the label of a process
abbrev pub label_of : World → ℕ → Option Categories
label_of w pid = option_map (λ p. p.label) (at w.frame.processes pid)

abbrev pub line_of : Event → Given → Line
line_of e given = record { reply = given.reply; bytes = given.bytes; label = label_of given.world e.pid }

-- what each entry gives, the first being at this place
abbrev pub lines_of : World → ℕ → List Event → List Line
lines_of w place [] = []
lines_of w place (e ∷ events) = line_of e (step_of w place e) ∷ lines_of (step_of w place e).world (suc place) events

-- what stands in a table from number n on: its number, and its label
abbrev pub labels_in : {A : Type 0} → (A → Categories) → ℕ → List (Option A) → List (ℕ × Categories)
labels_in label n [] = []
labels_in label n (None ∷ table) = labels_in label (suc n) table
labels_in label n (Some x ∷ table) = (n, label x) ∷ labels_in label (suc n) table

pub record Shown : Type 0 where
  pub lines : List Line
  pub objects : List (ℕ × Categories)
  pub processes : List (ℕ × Categories)
  pub log : List AuditLine

abbrev pub shown_from : World → List Event → Shown
shown_from w events = record {
  lines = lines_of w 1 events;
  objects = labels_in (λ o. o.label) 0 (run w 1 events).frame.objects;
  processes = labels_in (λ p. p.label) 0 (run w 1 events).frame.processes;
  log = (run w 1 events).frame.log;
}

-- all that a history from a config's opening world shows
abbrev pub shown : Config → List Event → Shown
shown c events = shown_from (opening_world c) events

-- the audit log that such a history has, by the rule of which entries are logged
abbrev pub log_of : Config → List Event → List AuditLine
log_of c events = audit_log (opening_world c) 1 events

-- the calls of a history that is told together with what each of them gives
abbrev pub calls : List (Event × Line) → List Event
calls exchange = map (λ x. x.0) exchange

-- from a config's opening world each call gives what stands beside it
abbrev pub Goes : Config → List (Event × Line) → Type 0
Goes c exchange = lines_of (opening_world c) 1 (calls exchange) ≡ map (λ x. x.1) exchange
