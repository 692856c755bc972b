-- The row of a write, once its tests are passed.
use Rattle.std.proofs.Common.{◌≡◌, ℕ, Some, refl}
use Rattle.ix_model.specs.{declared.refusal.Refusal.Refusal, world.World.{Frame, Object, Process, at, living}, rows.Outcomes.{Refuse, Pass}}
use Rattle.ix_model.specs.rows.{Rows.{◌>>=◌, ◌>>◌, on_pass, pass, need, some, refuse, frame, object, process, affect}, Walks.{OpenFile, opened}}
use Rattle.ix_model.specs.rows.OnDescriptors.{LengthChecks, write_fd, float_entry}
use Rattle.ix_fcalls.specs.Tested.{ToWrite}
use Rattle.ix_model.specs.declared.reply.Reply.TheVariants as reply

module _ (t : LengthChecks) (pid fd : ℕ) (f : Frame) (e : OpenFile) (x : Object) (tested : ToWrite t f pid fd e x) (p : Process) (lives : living (at f.processes pid) ≡ Some p) where
  pub write_refused : (why : Refusal) (g : Frame) → affect pid e.entry.object e.entry.label f ≡ Refuse why g → write_fd t pid fd f ≡ Refuse why g
  unfolding write_fd opened frame object process some ◌>>=◌ ◌>>◌ on_pass pass need refuse
  write_refused why g stops = rw (tested.is_behind, tested.writes, tested.is_object, tested.free, tested.small, tested.untrusted, tested.whole, tested.room, tested.space, lives, stops) refl

  pub write_passes : (g h : Frame) → affect pid e.entry.object e.entry.label f ≡ Pass tt g → float_entry p x e g ≡ Pass tt h → write_fd t pid fd f ≡ Pass (reply.Number 0) h
  unfolding write_fd opened frame object process some ◌>>=◌ ◌>>◌ on_pass pass need refuse
  write_passes g h affects floats = rw (
    tested.is_behind,
    tested.writes,
    tested.is_object,
    tested.free,
    tested.small,
    tested.untrusted,
    tested.whole,
    tested.room,
    tested.space,
    lives,
    affects,
    floats,
  ) refl
