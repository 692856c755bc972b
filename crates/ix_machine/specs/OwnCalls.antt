-- The calls that the machine answers itself.
use Rattle.std.specs.Prelude.{ℕ, Bool, true, false, not}
use Rattle.ix_model.specs.history.Events.{Op}
use Rattle.ix_model.specs.history.Events as op
use Rattle.ix_model.specs.rows.Lifetimes.{let_go_all}
use Rattle.ix_model.specs.rows.OnProcesses.{end_process, wait_passed}
use Rattle.ix_model.specs.rows.Outcomes.{Row}
use Rattle.ix_model.specs.rows.Rows.{◌>>◌, need, only_if}
use Rattle.ix_label.specs.Category.{Categories, leq, same}
use Rattle.ix_model.specs.declared.ids.Pid.{Pid}
use Rattle.ix_model.specs.declared.refusal.Refusal.TheVariants as refusal
use Rattle.ix_model.specs.declared.views.Floating.{Floating}
use Rattle.ix_model.specs.declared.reply.Reply.{Reply}

-- those that neither look at what a world holds nor edit it: on labels, privileges and the log, Exec and Unpex
abbrev pub is_still : Op → Bool
is_still (op.Exec path) = true
is_still (op.LabelOf path) = true
is_still op.SelfLabel = true
is_still (op.SetLabel path label) = true
is_still (op.SetSelf label) = true
is_still (op.Freeze path) = true
is_still op.FreezeSelf = true
is_still (op.Thaw path) = true
is_still op.ThawSelf = true
is_still (op.SetPriv path cap lic) = true
is_still (op.DropLic set) = true
is_still (op.GrantLic target set) = true
is_still (op.SetCeiling target label) = true
is_still (op.Unpex fd) = true
is_still (op.ReadLog index) = true
is_still _ = false

-- those of them that may be refused: SelfLabel alone never is
abbrev pub is_tested : Op → Bool
is_tested op.SelfLabel = false
is_tested o = is_still o

-- what the row of a wait answers to a child and its status, which the content fills in
abbrev pub child_passed : Pid × ℕ → Reply
child_passed c = wait_passed c.0.0

-- a label of a process changes only where it isn't frozen, and stays below its ceiling
abbrev pub self_movable : Floating → Categories → Row (Unit {0})
self_movable x now = only_if (not (same x.label now)) (do
  need (not x.frozen) refusal.ProcFrozen
  need (leq now x.ceiling) refusal.ProcCeiling)

-- all that a process has goes, and then it ends
abbrev pub let_go_and_end : ℕ → Row (Unit {0})
let_go_and_end pid = do
  let_go_all pid
  end_process pid
