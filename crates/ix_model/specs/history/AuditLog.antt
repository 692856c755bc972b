-- The audit log of a history, and which of its entries are licensed.
use Rattle.std.specs.Prelude.{ℕ, suc, Bool, true, false, not, ◌&&◌, List, [], ◌∷◌, ◌++◌, Option, Some, None, if◌then◌else◌}
use Rattle.std.specs.Option.{option_map_or, option_and_then}
use Rattle.ix_label.specs.Category.{Categories, bottom, leq}
use Rattle.ix_model.specs.world.Naming.{PathOf}
use Rattle.ix_model.specs.world.World.{World, Frame, Process, at, living}
use Rattle.ix_model.specs.rows.Walks.{Sought, Found, walk}
use Rattle.ix_model.specs.rows.Auditing.{audit_line}
use Rattle.ix_model.specs.rows.OnLabels.{needs_to_set_ceilings}
use Rattle.ix_model.specs.history.Step.{step_of}
use Rattle.ix_model.specs.history.Events.{Op, Event}
use Rattle.ix_model.specs.history.Events as op
use Rattle.ix_model.specs.declared.audit.Act.{Act}
use Rattle.ix_model.specs.declared.audit.Act.TheVariants as act
use Rattle.ix_model.specs.declared.audit.AuditLine.{AuditLine}
use Rattle.ix_model.specs.declared.reply.Reply.{Reply}
use Rattle.ix_model.specs.declared.reply.Reply.TheVariants as reply

-- ---- licensed entries
-- the object at which a walk ended, if it found one
abbrev pub object_sought : Sought → Option ℕ
object_sought (Found o dir) = Some o
object_sought _ = None

-- the object that a path of a living process leads to, if it leads to one
unfoldable pub object_of_path : Frame → ℕ → PathOf → Option ℕ
object_of_path f pid path = option_and_then (λ p. object_sought (walk f.objects p path).outcome) (living (at f.processes pid))

-- the label of an object
unfoldable pub label_at : Frame → Option ℕ → Categories
label_at f o = option_map_or (λ x. x.label) (option_and_then (λ n. at f.objects n) o) bottom

-- what a process has
unfoldable pub of_process : {A : Type 0} → (Process → A) → A → Frame → ℕ → A
of_process get none f p = option_map_or get (at f.processes p) none

-- whether a call exercises a privilege, in the frame before it
unfoldable pub exercises : Frame → ℕ → Op → Bool
exercises f pid (op.SetLabel path now) = not (leq (label_at f (object_of_path f pid path)) now)
exercises f pid (op.SetSelf now) = not (leq (of_process (λ p. p.label) bottom f pid) now)
exercises f pid (op.Thaw path) = true
exercises f pid op.ThawSelf = true
exercises f pid (op.SetPriv path cap lic) = true
exercises f pid (op.GrantLic target set) = true
exercises f pid (op.SetCeiling target now) = of_process (λ q. needs_to_set_ceilings pid target q now) false f target
exercises f pid (op.ReadLog index) = true
exercises f pid _ = false

-- whether a reply is no refusal
abbrev pub is_answer : Reply → Bool
is_answer (reply.No why) = false
is_answer _ = true

-- an entry is licensed where it exercised a privilege and was not refused
unfoldable pub is_licensed : World → ℕ → Event → Bool
is_licensed w place e = is_answer (step_of w place e).reply && exercises w.frame e.pid e.op

-- ---- the log
-- the object of a path by its number, for an audit line
abbrev pub target_of : Frame → ℕ → PathOf → ℕ
target_of f pid path = option_map_or (λ o. o) (object_of_path f pid path) 0

-- the line of an act on the object of a path: its labels before and after
abbrev pub line_on_object : Frame → Frame → ℕ → ℕ → PathOf → Act → AuditLine
line_on_object f g place pid path a = audit_line place pid a (target_of f pid path) (label_at f (object_of_path f pid path)) (label_at g (object_of_path f pid path))

-- the line of an act on a process: what it had and what it has, a label or a ceiling
abbrev pub line_on_process : (Process → Categories) → Frame → Frame → ℕ → ℕ → ℕ → Act → AuditLine
line_on_process get f g place pid target a = audit_line place pid a target (of_process get bottom f target) (of_process get bottom g target)

-- the line of a licensed entry, from the frames before and after it; no other entry has one
unfoldable pub line_of_act : Frame → Frame → ℕ → ℕ → Op → Option AuditLine
line_of_act f g place pid (op.SetLabel path now) = Some (line_on_object f g place pid path act.DownFile)
line_of_act f g place pid (op.SetSelf now) = Some (line_on_process (λ p. p.label) f g place pid pid act.DownSelf)
line_of_act f g place pid (op.Thaw path) = Some (line_on_object f g place pid path act.ThawFile)
line_of_act f g place pid op.ThawSelf = Some (line_on_process (λ p. p.label) f g place pid pid act.ThawSelf)
line_of_act f g place pid (op.SetPriv path cap lic) = Some (record (line_on_object f g place pid path act.SetPriv) { cap = cap; lic = lic })
line_of_act f g place pid (op.GrantLic target set) = Some (record (line_on_process (λ p. p.label) f g place pid target act.Grant) { lic = set })
line_of_act f g place pid (op.SetCeiling target now) = Some (line_on_process (λ p. p.ceiling) f g place pid target act.Ceiling)
line_of_act f g place pid (op.ReadLog index) = Some (audit_line place pid act.ReadLog index (of_process (λ p. p.label) bottom f pid) (of_process (λ p. p.label) bottom g pid))
line_of_act f g place pid _ = None

-- the line that an entry adds: its own where it is licensed, else none
unfoldable pub lines_added : World → ℕ → Event → List AuditLine
lines_added w place e = if is_licensed w place e then option_map_or (λ l. l ∷ []) (line_of_act w.frame (step_of w place e).world.frame place e.pid e.op) [] else []

-- the lines of the licensed entries of a history, in order; the first entry is at this place
unfoldable pub audit_log : World → ℕ → List Event → List AuditLine
audit_log w place [] = []
audit_log w place (e ∷ events) = lines_added w place e ++ audit_log (step_of w place e).world (suc place) events
