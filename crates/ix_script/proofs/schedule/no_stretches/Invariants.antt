use Rattle.std.proofs.Common.{◌≡◌, ℕ, [], length}
use Rattle.ix_script.specs.scripts.Held.{own_of}
use Rattle.ix_script.proofs.schedule.no_stretches.Given as goal

abbrev pub invariant-lists : goal.invariant-lists
invariant-lists l = (length l.lists.items ≡ l.counter) × ((seat : ℕ) → own_of l.lists.items seat ≡ [])
