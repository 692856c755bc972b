use Rattle.std.{proofs.Common.{◌≡◌, ◌≤◌, true, length, take}, specs.List.flat_map}
use Rattle.ix_script.specs.scripts.Schedule.{stretch_lines, stretches_of}
use Rattle.ix_lanes.specs.{asking.{Asked.no_names, Places.standing}, running.Fields.all_placed}
use Rattle.ix_lanes.proofs.running.lane_calls.places_of.Given as goal

abbrev pub invariant-loop-n : goal.invariant-loop-n
invariant-loop-n l = record {
  none : standing l.places ≡ no_names;
  all : all_placed l.places (flat_map (stretch_lines l.script) (take l.n (stretches_of l.script l.lane))) ≡ true;
  within : l.n ≤ length l.script;
}
