-- What another label of an open entry changes.
use Rattle.std.proofs.Common.{ℕ, List, Option, refl, length-set}
use Rattle.ix_model.specs.world.World.{Open, Process, change}
use Rattle.ix_tables.specs.Parts.{Parts}
use Rattle.ix_fcalls.{specs.Counted.IsCounted, proofs.Counting.counted_same}

-- the counts don't see the labels of open entries
pub counted_marked : (t : Parts) (ps : List (Option Process)) (e : ℕ) (h : Open → Open) → IsCounted t ps → IsCounted (record t { opens = change t.opens e h }) ps
counted_marked t ps e h c = counted_same t _ ps refl refl (length-set t.opens e _) refl c

pub ruleset marking = (counted_marked)
