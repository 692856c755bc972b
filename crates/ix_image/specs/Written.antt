-- What of an image was written.
use Rattle.std.specs.Prelude.{◌≡◌, ℕ, ◌<◌, ◌≤◌, List, ◌++◌, length}
use Rattle.ix_model.specs.history.History.{world_of}
use Rattle.ix_image.specs.declared.written.Saving.{Saving}
use Rattle.ix_image.specs.Saving.{AreNamed, Stands, bytes_left, kept_from, pieces_left}

-- what is known of one that was begun
pub record IsBegun (s : Saving) : Type 0 where
  pub few : length s.fss.now ≤ 16
  pub marks : AreNamed (world_of s.core.now) s.named.items
  pub counted : s.count ≡ length (kept_from (world_of s.core.now) 0)
  pub stands : Stands (world_of s.core.now) s.next

-- what is left to write, and how many pieces that are at most
unfoldable pub left_of : Saving → List ℕ
left_of s = bytes_left s.fss.now (world_of s.core.now) s.next

unfoldable pub pieces_of : Saving → ℕ
pieces_of s = pieces_left s.fss.now (world_of s.core.now) s.next

-- one piece more was written
pub record Wrote (old new : Saving) (before after : List ℕ) : Type 0 where
  pub text : after ++ left_of new ≡ before ++ left_of old
  pub grown : (piece : List ℕ) × (after ≡ before ++ piece)
  pub fewer : pieces_of new < pieces_of old
  pub begun : IsBegun new
