use Rattle.std.proofs.Common.{◌≡◌, drop}
use Rattle.ix_script.specs.scripts.Schedule.{seat_from}
use Rattle.ix_script.proofs.schedule.seat_of.Given as goal

abbrev pub invariant-lanes : goal.invariant-lanes
invariant-lanes l = seat_from 0 l.name l.lanes ≡ seat_from l.seat l.name (drop l.seat l.lanes)
