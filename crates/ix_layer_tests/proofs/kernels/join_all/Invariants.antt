use Rattle.std.{proofs.Common.{◌≡◌, List, ◌++◌}, specs.Prelude.All}
use Rattle.ix_gate.specs.Seat.{StandsFor}
use Rattle.ix_kernel.specs.Seen.{KSeatState}
use Rattle.ix_layer_tests.proofs.kernels.join_all.Given as goal

abbrev pub invariant-loop-other : goal.invariant-loop-other
invariant-loop-other l =
    (goal.iterator-loop-other).can_next l.other-iterator × (goal.iterator-loop-other).is_finite l.other-iterator
    × (l.first.gate ≡ l.kernel.id) × All (λ s. s.gate ≡ l.kernel.id) l.other-iterator.rest.items
    × ((done : List KSeatState) × (l.fn.seats.items ≡ done ++ l.other-iterator.rest.items) × All (λ s. StandsFor l.first s.number) done)
