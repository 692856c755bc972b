use Rattle.std.proofs.Common.{◌≡◌, ◌+◌, ◌≤◌, length}
use Rattle.ix_model.specs.history.History.{world_of}
use Rattle.ix_image.specs.Saving.{kept_from}
use Rattle.ix_image.proofs.named.count_kept.Given as goal

abbrev pub invariant-loop-n : goal.invariant-loop-n
invariant-loop-n l = record {
  so_far : l.count + length (kept_from (world_of l.core) l.n) ≡ length (kept_from (world_of l.core) 0);
  few : l.count ≤ l.n;
}
