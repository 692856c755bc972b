use Rattle.std.proofs.Common.{◌≡◌, None}
use Rattle.ix_layer_tests.proofs.gates.take_turns.Given as goal

abbrev pub invariant-loop : goal.invariant-loop
invariant-loop g l = (l.seat.gate ≡ l.initial.seat.gate) × (l.seat.taken ≡ None) × (l.seat.number ≡ l.initial.seat.number)
