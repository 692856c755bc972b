-- Which labels a call may change of what stands behind descriptors, and what stays there.
use Rattle.std.specs.Prelude.{◌≡◌, ℕ, Bool, false, not, ◌&&◌, ◌||◌, ◌==◌, Option, Some, None}
use Rattle.std.specs.Option.{option_map_or}
use Rattle.std.proofs.Common.{option_map}
use Rattle.ix_label.specs.Category.{Categories, bottom, same}
use Rattle.ix_model.specs.world.World.{Frame, Object, at}
use Rattle.ix_model.specs.rows.Walks.{OpenFile, behind}
use Rattle.ix_model.specs.history.AuditLog.{object_of_path, label_at, of_process}
use Rattle.ix_model.specs.history.Events.{Op, Event}
use Rattle.ix_model.specs.history.Events as op

-- ---- what stays
-- the same open entry, on the same end of the same object and with the same mode
pub record Stays (b : OpenFile) (f g : Frame) (pid fd : ℕ) : Type 0 where
  pub entry : OpenFile
  pub is_behind : behind g pid fd ≡ Some entry
  pub id : entry.id ≡ b.id
  pub on : entry.entry.object ≡ b.entry.object
  pub end : entry.entry.end ≡ b.entry.end
  pub mode : entry.entry.mode ≡ b.entry.mode
  -- the object was there, and is there, of the same kind and on the same file system
  pub was : Object
  pub is_was : at f.objects b.entry.object ≡ Some was
  pub object : Object
  pub is_object : at g.objects b.entry.object ≡ Some object
  pub kind : object.kind ≡ was.kind
  pub fs : object.fs ≡ was.fs

-- ---- what a call may touch
-- the object, and the open entry, behind a descriptor, by their numbers
abbrev pub object_behind : Frame → ℕ → ℕ → Option ℕ
object_behind f pid fd = option_map (λ b. b.entry.object) (behind f pid fd)

abbrev pub entry_behind : Frame → ℕ → ℕ → Option ℕ
entry_behind f pid fd = option_map (λ b. b.id) (behind f pid fd)

-- The object whose label a call may change, in the frame before it: the one behind the descriptor that is written or cut, or
-- the one of the path that is labelled, frozen or given privileges. All others change labels of directories alone, and no
-- descriptor stands for a directory.
abbrev pub target : Frame → ℕ → Op → Option ℕ
target f pid (op.WriteFd fd bytes) = object_behind f pid fd
target f pid (op.CutFd fd len) = object_behind f pid fd
target f pid (op.SetLabel path label) = object_of_path f pid path
target f pid (op.Freeze path) = object_of_path f pid path
target f pid (op.SetPriv path cap lic) = object_of_path f pid path
target f pid _ = None

-- the open entry whose label a call may change: the one that is read, written or sought through
abbrev pub entry_target : Frame → ℕ → Op → Option ℕ
entry_target f pid (op.ReadFd fd count) = entry_behind f pid fd
entry_target f pid (op.WriteFd fd bytes) = entry_behind f pid fd
entry_target f pid (op.SeekFd fd offset) = entry_behind f pid fd
entry_target f pid _ = None

-- ---- what it touched
-- whether two numbers are there, and are one
abbrev pub is_one : Option ℕ → Option ℕ → Bool
is_one (Some n) (Some m) = n == m
is_one _ _ = false

-- the label of the open entry of a number
abbrev pub label_of_entry : Frame → Option ℕ → Categories
label_of_entry f e = option_map_or (λ n. option_map_or (λ x. x.label) (at f.opens n) bottom) e bottom

-- whether the label of a process, of an object or of an open entry is another in the second frame
abbrev pub moved_process : Frame → Frame → ℕ → Bool
moved_process f g pid = not (same (of_process (λ p. p.label) bottom f pid) (of_process (λ p. p.label) bottom g pid))

abbrev pub moved_object : Frame → Frame → Option ℕ → Bool
moved_object f g o = not (same (label_at f o) (label_at g o))

abbrev pub moved_entry : Frame → Frame → Option ℕ → Bool
moved_entry f g e = not (same (label_of_entry f e) (label_of_entry g e))

-- Whether a call changed a label that a descriptor's freshness goes by: that of its process, which only its own calls change,
-- that of the target where it is the object that the descriptor stands for, or that of the open entry where it is gone through.
abbrev pub touches : Frame → Event → Frame → ℕ → Option ℕ → Option ℕ → Bool
touches f e g pid object entry =
    e.pid == pid && moved_process f g e.pid
    || is_one (target f e.pid e.op) object && moved_object f g (target f e.pid e.op)
    || is_one (entry_target f e.pid e.op) entry && moved_entry f g (entry_target f e.pid e.op)

-- the labels that are as they were: of a process that didn't call, of an object that isn't the target, and of an open entry
-- that wasn't gone through
pub record LabelsStayBut (b : OpenFile) (f : Frame) (e : Event) (g : Frame) (pid : ℕ) : Type 0 where
  pub process : (e.pid == pid) ≡ false → of_process (λ p. p.label) bottom g pid ≡ of_process (λ p. p.label) bottom f pid
  pub object : is_one (target f e.pid e.op) (Some b.entry.object) ≡ false → label_at g (Some b.entry.object) ≡ label_at f (Some b.entry.object)
  pub entry : is_one (entry_target f e.pid e.op) (Some b.id) ≡ false → label_of_entry g (Some b.id) ≡ label_of_entry f (Some b.id)
