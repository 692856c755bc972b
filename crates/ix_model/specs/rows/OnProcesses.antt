-- The calls on processes: their tests in order, their effects and replies.
use Rattle.std.specs.Prelude.{ℕ, ◌==◌, nat_lt, Bool, true, false, not, ◌&&◌, List, length, replicate, position, count_by, Option, Some, None, is_some, if◌then◌else◌}
use Rattle.std.specs.Option.{option_map_or, option_and_then}
use Rattle.std.specs.List.{list_any}
use Rattle.ix_model.specs.world.Naming.{PathOf}
use Rattle.ix_model.specs.world.World.{Process, at, put, is_dir, is_ended}
use Rattle.ix_model.specs.rows.Outcomes.{Row}
use Rattle.ix_model.specs.rows.Rows.{◌>>=◌, ◌>>◌, pass, need, some, frame, process, object, record_of, change_process, put_process, add_process, observe}
use Rattle.ix_model.specs.rows.Walks.{object_at}
use Rattle.ix_model.specs.rows.Lifetimes.{let_go_all}
use Rattle.ix_model.specs.declared.call.Keep.{Keep}
use Rattle.ix_model.specs.declared.call.Keep.TheVariants as keep
use Rattle.ix_model.specs.declared.refusal.Refusal.TheVariants as refusal
use Rattle.ix_model.specs.declared.reply.Reply.{Reply}
use Rattle.ix_model.specs.declared.reply.Reply.TheVariants as reply

-- ---- forking
-- whether the descriptor that a fork asks for is one
abbrev pub has_kept : Keep → Process → Bool
has_kept (keep.One fd) p = is_some (at p.fds fd.0)
has_kept _ p = true

-- the descriptors that a child has: all, none, or one under its number
abbrev pub kept_fds : Keep → List (Option ℕ) → List (Option ℕ)
kept_fds keep.All fds = fds
kept_fds keep.Nothing fds = replicate 32 None
kept_fds (keep.One fd) fds = put (replicate 32 None) fd.0 (at fds fd.0)

-- Fork: a child like the caller, with the next pid
unfoldable pub fork : ℕ → Keep → Row Reply
fork pid keep = do
  p ← process pid
  need (has_kept keep p) refusal.BadFd
  f ← frame
  need (nat_lt (count_by is_some f.processes) f.limits.procs) refusal.NoSlot
  add_process (record p { parent = Some pid; fds = kept_fds keep p.fds })
  pass (reply.Number (length f.processes))

-- Exec: the file's capabilities become the caller's, and its licences those of the caller's program; the caller's own licences
-- and its descriptors stay
unfoldable pub exec : ℕ → PathOf → Row Reply
exec pid path = do
  o ← object_at pid path
  x ← object o
  need (not (is_dir x)) refusal.IsDir
  observe pid x.label
  change_process pid (λ p. record p { cap = x.cap; own = x.lic })
  pass reply.Done

-- ---- ending
-- whether a record, living or ended, is of a child of that process
abbrev pub is_child : ℕ → Option Process → Bool
is_child pid q = option_map_or (λ p. option_map_or (λ r. r == pid) p.parent false) q false

-- what is left of a process that ends: its record until its parent waits, and nothing where it has no parent
abbrev pub remains : Process → Option Process
remains p = if is_some p.parent then Some (record p { ended = true }) else None

-- a process ends
unfoldable pub end_process : ℕ → Row (Unit {0})
end_process pid = λ f. put_process pid (option_and_then remains (at f.processes pid)) f

-- Exit: descriptors and claims go, and with them what they alone kept
unfoldable pub exit : ℕ → Row Reply
exit pid = do
  f ← frame
  need (not (list_any (is_child pid) f.processes)) refusal.ChildrenLive
  let_go_all pid
  end_process pid
  pass reply.Done

-- what a row answers to a wait: the content fills in the child's status
abbrev pub wait_passed : ℕ → Reply
wait_passed c = reply.Child (record { 0 = c }) 0

-- WaitChild: the ended child with the lowest pid is looked at, and its record goes
unfoldable pub wait_child : ℕ → Row Reply
wait_child pid = do
  f ← frame
  need (list_any (is_child pid) f.processes) refusal.NoChild
  c ← some (position (λ q. is_child pid q && is_ended q) f.processes) refusal.Again
  q ← record_of c
  observe pid q.label
  put_process c None
  pass (wait_passed c)
