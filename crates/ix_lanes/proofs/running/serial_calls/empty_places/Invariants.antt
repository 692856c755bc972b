use Rattle.std.proofs.Common.{◌≡◌, map, replicate}
use Rattle.ix_lanes.specs.asking.{Asked.no_names, Places.standing}
use Rattle.ix_lanes.proofs.running.serial_calls.empty_places.Given as goal

abbrev pub invariant-loop : goal.invariant-loop
invariant-loop l = record { names : map standing l.all.items ≡ replicate l.counter no_names }
