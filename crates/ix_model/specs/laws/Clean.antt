-- What holds nothing: a number at which nothing stands.
use Rattle.std.specs.Prelude.{◌≡◌, ℕ, false, length, is_some, slice_index_or}
use Rattle.ix_model.specs.world.World.{World, at, is_ended}
use Rattle.ix_model.specs.world.Contents.{holding_of, offset_of, holds_nothing}

-- no bytes at a number without an object, no offset without an open entry, no status without an ended process, and a
-- status for each pid
pub record IsClean (w : World) : Type 0 where
  pub holdings : (o : ℕ) → is_some (at w.frame.objects o) ≡ false → holding_of w.content o ≡ holds_nothing
  pub offsets : (e : ℕ) → is_some (at w.frame.opens e) ≡ false → offset_of w.content e ≡ 0
  pub statuses : (p : ℕ) → is_ended (at w.frame.processes p) ≡ false → slice_index_or w.content.statuses p 0 ≡ 0
  pub count : length w.content.statuses ≡ length w.frame.processes
