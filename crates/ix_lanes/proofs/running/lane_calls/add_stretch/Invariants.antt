use Rattle.std.proofs.Common.{◌≡◌, ◌≤◌, ◌-◌, true, drop, take}
use Rattle.ix_lanes.{specs.asking.Places.{KeepsPlaces, standing}, proofs.phased.Stretching.placed}
use Rattle.ix_lanes.proofs.running.lane_calls.add_stretch.Given as goal

abbrev pub invariant-loop-index : goal.invariant-loop-index
invariant-loop-index l = record {
  same : standing l.places ≡ standing l.fn.places;
  keeps : KeepsPlaces l.fn.places l.places;
  all : placed l.places (take (l.index - l.fn.stretch.first) (drop l.fn.stretch.first l.script)) ≡ true;
  from : l.fn.stretch.first ≤ l.index;
}
