use Rattle.std.proofs.Common.{◌≡◌, ◌≤◌, length}
use Rattle.ix_script.specs.lines.Before.{lanes_of}
use Rattle.ix_check.{specs.Stepping.{first_at, lane_now}, proofs.FirstLanes.AreOf}
use Rattle.ix_check.proofs.lane.first_lanes.Given as goal

abbrev pub invariant-loop-seat : goal.invariant-loop-seat
invariant-loop-seat l = record {
  within : l.seat ≤ length (lanes_of l.script);
  count : length l.lanes.items ≡ l.seat;
  each : AreOf lane_now (first_at l.script) l.lanes.items;
}
