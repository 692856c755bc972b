use Rattle.std.proofs.Common.{◌≡◌, ◌≤◌, length, map, take}
use Rattle.ix_lanes.specs.{asking.Places.standing, histories.Serial.first_names, running.Phases.seat_at}
use Rattle.ix_lanes.proofs.phased.Seated.{PlacedTo, seat_by}
use Rattle.ix_lanes.proofs.running.serial_calls.all_places.Given as goal

abbrev pub invariant-loop-index : goal.invariant-loop-index
invariant-loop-index l = record {
  within : l.index ≤ length l.script;
  seat : seat_by l.script l.begun ≡ seat_at l.script (take l.index l.script);
  placed : PlacedTo l.script l.index l.all.items;
  names : map standing l.all.items ≡ first_names l.script;
}
