-- The rows that make and unmake nothing leave a sound frame.
use Rattle.std.proofs.Common.{◌≡◌, ℕ, Bool, true, false, sym, true≢false}
use Rattle.ix_model.specs.{world.{Naming.PathOf, World.{Frame, Object, Process}}, rows.{Walks.{OpenFile, walked_to, object_at, opened}, OnDescriptors.{LengthChecks, float_entry}}}
use Rattle.ix_model.{specs.{rows.{Table.row, Outcomes.Row}, declared.reply.Reply.Reply, history.Events.Op}, proofs.words.{OpenRows.open_row, Keeps.{Keeps, keeping}}}
use Rattle.ix_model.proofs.frames.Frames.{Follows, follows_change_open, follows_change_object, follows_change_process, follows_observe, follows_affect}
use Rattle.ix_model.specs.history.Events as op

-- the calls whose rows test no more than the words do
abbrev pub is_steady : Op → Bool
is_steady (op.StatAt path) = true
is_steady (op.ListAt path index) = true
is_steady (op.LabelOf path) = true
is_steady op.SelfLabel = true
is_steady (op.ReadFd fd count) = true
is_steady (op.WriteFd fd bytes) = true
is_steady (op.CutFd fd len) = true
is_steady (op.SeekFd fd offset) = true
is_steady (op.Freeze path) = true
is_steady op.FreezeSelf = true
is_steady (op.DropLic set) = true
is_steady (op.Exec path) = true
is_steady _ = false

module _ (f : Frame) where
  ruleset following = (keeping, follows_change_open, follows_change_object, follows_change_process, follows_observe, follows_affect)

  -- ---- walks and descriptors
  pub follows_walked_to : (pid : ℕ) (path : PathOf) → Keeps (Follows f) (walked_to pid path)
  unfolding walked_to
  follows_walked_to pid path = search following depth 30

  pub follows_found : (pid : ℕ) (path : PathOf) → Keeps (Follows f) (object_at pid path)
  unfolding object_at
  follows_found pid path = search (following, follows_walked_to) depth 30

  pub follows_opened : (pid fd : ℕ) → Keeps (Follows f) (opened pid fd)
  unfolding opened
  follows_opened pid fd = search following depth 30

  ruleset following_rows = (following, follows_found, follows_opened)

  -- ---- the rows
  follows_float_entry : (p : Process) (x : Object) (e : OpenFile) → Keeps (Follows f) (float_entry p x e)
  unfolding float_entry
  follows_float_entry p x e = search following depth 30

  no_other : (m : Row Reply) → false ≡ true → Keeps (Follows f) m
  no_other m h = absurd (true≢false (sym h))

  ruleset table = (following_rows, follows_float_entry, no_other)

  pub follows_row : (t : LengthChecks) (place pid : ℕ) (c : Op) → is_steady c ≡ true → Keeps (Follows f) (row t place pid c)
  unfolding open_row
  follows_row t place pid op.SelfLabel h = search table depth 40
  follows_row t place pid c h = search table depth 40
