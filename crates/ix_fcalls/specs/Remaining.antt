-- What remains of a world where some of what stood is gone.
use Rattle.std.specs.Prelude.{◌≡◌, ℕ, true, false, List, length, Option, is_some, slice_index_or}
use Rattle.ix_model.specs.world.World.{World, at, is_ended}
use Rattle.ix_model.specs.world.Contents.{holds_nothing}

-- what stands in the second table stood in the first and has what it had; at all other numbers there is nothing
pub record Remains {A B : Type 0} (none : A) (before after : List (Option B)) (had has : List A) : Type 0 where
  pub count : length has ≡ length had
  pub stood : (n : ℕ) → is_some (at after n) ≡ true → is_some (at before n) ≡ true
  pub same : (n : ℕ) → is_some (at after n) ≡ true → slice_index_or has n none ≡ slice_index_or had n none
  pub gone : (n : ℕ) → is_some (at after n) ≡ false → slice_index_or has n none ≡ none

-- no object and no open entry is new, and of the processes the same have ended
pub record Leaves (v w : World) : Type 0 where
  pub objects : Remains holds_nothing v.frame.objects w.frame.objects v.content.holdings w.content.holdings
  pub opens : Remains 0 v.frame.opens w.frame.opens v.content.offsets w.content.offsets
  pub ended : (p : ℕ) → is_ended (at w.frame.processes p) ≡ is_ended (at v.frame.processes p)
  pub processes : length w.frame.processes ≡ length v.frame.processes
  pub statuses : w.content.statuses ≡ v.content.statuses
