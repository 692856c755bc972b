use Rattle.std.proofs.Common.{◌≡◌, ℕ, ◌+◌, ◌-◌, ◌≤◌, drop, length, map, take}
use Rattle.ix_model.specs.world.World.{World}
use Rattle.ix_lanes.specs.{asking.Places.standing, histories.Serial.serial_from, running.{Phases.seat_at, Serially.ArePlaced}}
use Rattle.ix_lanes.proofs.running.serial_calls.Place.find.Given as goal

abbrev pub invariant-lines : goal.invariant-lines
invariant-lines l = record {
  within : l.self.at ≤ length l.script;
  later : l.initial.self.at ≤ l.self.at;
  seat : l.self.seat ≡ seat_at l.script (take l.self.at l.script);
  placed : ArePlaced l.script l.places;
  left : (w : World) (place : ℕ) → serial_from l.script w place (map standing l.places) l.self.seat (l.self.at + 1) (drop l.self.at l.script)
      ≡ serial_from l.script w place (map standing l.initial.places) l.initial.self.seat (l.initial.self.at + 1) (drop l.initial.self.at l.script);
}

abbrev pub decreases-lines : goal.decreases-lines
decreases-lines l = length l.script - l.self.at
