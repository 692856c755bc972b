use Rattle.std.proofs.Common.{◌≡◌, drop, length}
use Rattle.ix_model.specs.world.Naming.{same_bytes}
use Rattle.ix_model.proofs.contents.Contents.same_one_by_one.Given as goal

abbrev pub invariant-loop-i : goal.invariant-loop-i
invariant-loop-i l = record {
  lengths : length l.self ≡ length l.other;
  left : same_bytes l.self l.other ≡ same_bytes (drop l.i l.self) (drop l.i l.other);
}
