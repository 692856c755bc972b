use Rattle.std.{proofs.Common.{◌≡◌, drop, length}, specs.Cmp.Lexicographic.pointwise}
use Rattle.ix_model.specs.world.Naming.{same_bytes}
use Rattle.ix_script.specs.lines.Before.{lanes_of}
use Rattle.ix_twin.proofs.comparison.same_lanes.Given as goal

abbrev pub invariant-loop-seat : goal.invariant-loop-seat
invariant-loop-seat l = record {
  lengths : length (lanes_of l.one) ≡ length (lanes_of l.two);
  left : pointwise same_bytes (lanes_of l.one) (lanes_of l.two) ≡ pointwise same_bytes (drop l.seat (lanes_of l.one)) (drop l.seat (lanes_of l.two));
}
