use Rattle.std.proofs.Common.{◌≡◌, ◌≤◌}
use Rattle.ix_lanes.specs.{asking.{LineAsks.lines_ask, Places.{KeepsPlaces, standing}, Ruled.rules_told}, histories.Serial.header_of}
use Rattle.ix_lanes.specs.running.{Phases.lane_between, Stretches.{IsAmong, steps_to}}
use Rattle.ix_lanes.proofs.running.here.Here.find.Given as goal

abbrev pub invariant-lines : goal.invariant-lines
invariant-lines l = record {
  within : l.self.at ≤ l.end;
  later : l.initial.self.at ≤ l.self.at;
  among : IsAmong l.script l.lane l.self.at l.self.stretch l.self.come;
  left : lines_ask (rules_told l.script) (header_of l.script) (standing l.places) (lane_between l.script l.lane l.self.at l.end)
      ≡ lines_ask (rules_told l.script) (header_of l.script) (standing l.initial.places) (lane_between l.script l.lane l.initial.self.at l.end);
  keeps : KeepsPlaces l.initial.places l.places;
}

abbrev pub decreases-lines : goal.decreases-lines
decreases-lines l = steps_to l.script l.lane l.end l.self.at l.self.come
