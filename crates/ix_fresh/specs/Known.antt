-- What is known of a fresh descriptor.
use Rattle.std.specs.Prelude.{◌≡◌, ℕ, Bool, true, false, Some}
use Rattle.ix_label.specs.Category.{Categories, join, leq}
use Rattle.ix_model.specs.world.World.{Frame, Object, Process, at, living, is_pipe}
use Rattle.ix_model.specs.rows.Outcomes.{Row, Pass}
use Rattle.ix_model.specs.rows.Rows.{observe, affect}
use Rattle.ix_model.specs.rows.Walks.{OpenFile, behind}
use Rattle.ix_model.specs.rows.OnDescriptors.{float_entry}
use Rattle.ix_model.specs.history.Freshness.{Way, Reading, Writing}

-- whether a call that way would add nothing: a read to the label of the process, a write to that of the object
abbrev pub is_level : Way → Categories → Categories → Categories → Bool
is_level Reading process object entry = leq (join object entry) process
is_level Writing process object entry = leq (join process entry) object

-- The process of a descriptor, which lives, and the open entry and the object behind it. The labels are level for a call that
-- way, and the open entry of what is no pipe has taken in the process's label: so the call would change none.
pub record Known (way : Way) (f : Frame) (pid fd : ℕ) : Type 0 where
  pub process : Process
  pub lives : living (at f.processes pid) ≡ Some process
  pub entry : OpenFile
  pub is_behind : behind f pid fd ≡ Some entry
  pub object : Object
  pub is_object : at f.objects entry.entry.object ≡ Some object
  pub level : is_level way process.label object.label entry.entry.label ≡ true
  pub taken_in : is_pipe object ≡ false → leq process.label entry.entry.label ≡ true

-- ---- the rules that such a call goes by
-- a read observes the object through the open entry, and a write affects it
abbrev pub look : Way → ℕ → Object → OpenFile → Row (Unit {0})
look Reading pid x b = observe pid (join x.label b.entry.label)
look Writing pid x b = affect pid b.entry.object b.entry.label

-- they pass, and leave the frame as it is
pub record ChangeNothing (way : Way) (f : Frame) (pid : ℕ) (p : Process) (x : Object) (b : OpenFile) : Type 0 where
  pub look : look way pid x b f ≡ Pass tt f
  pub float_entry : float_entry p x b f ≡ Pass tt f
