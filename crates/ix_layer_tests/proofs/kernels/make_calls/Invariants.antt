use Rattle.std.proofs.Common.{◌≡◌}
use Rattle.ix_layer_tests.proofs.kernels.make_calls.Given as goal

abbrev pub invariant-loop-line : goal.invariant-loop-line
invariant-loop-line g l = (l.seat.gate ≡ l.initial.seat.gate) × (l.seat.number ≡ l.initial.seat.number)
