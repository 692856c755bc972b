-- The calls on bytes change nothing in the frame but labels.
use Rattle.std.proofs.Common.{ℕ}
use Rattle.ix_model.specs.{world.World.{Frame, Object, Process}, rows.{Walks.{OpenFile, opened}, OnDescriptors.{LengthChecks, float_entry, read_fd, write_fd, cut_fd}}}
use Rattle.ix_model.proofs.{words.Keeps.{Keeps, keeping}, frames.Floats.{Floats, floats_change_open, floats_observe, floats_affect}}

module _ (f : Frame) where
  floats_opened : (pid fd : ℕ) → Keeps (Floats f) (opened pid fd)
  unfolding opened
  floats_opened pid fd = search keeping depth 30

  floats_float_entry : (p : Process) (x : Object) (e : OpenFile) → Keeps (Floats f) (float_entry p x e)
  unfolding float_entry
  floats_float_entry p x e = search (keeping, floats_change_open) depth 30

  ruleset floating_rows = (keeping, floats_observe, floats_affect, floats_opened, floats_float_entry)

  pub floats_read_fd : (t : LengthChecks) (pid fd count : ℕ) → Keeps (Floats f) (read_fd t pid fd count)
  unfolding read_fd
  floats_read_fd t pid fd count = search floating_rows depth 40

  pub floats_write_fd : (t : LengthChecks) (pid fd : ℕ) → Keeps (Floats f) (write_fd t pid fd)
  unfolding write_fd
  floats_write_fd t pid fd = search floating_rows depth 40

  pub floats_cut_fd : (t : LengthChecks) (pid fd len : ℕ) → Keeps (Floats f) (cut_fd t pid fd len)
  unfolding cut_fd
  floats_cut_fd t pid fd len = search floating_rows depth 40
