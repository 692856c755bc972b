use Rattle.std.{proofs.Common.{◌≡◌, List, ◌++◌, None}, specs.Prelude.All}
use Rattle.ix_gate.specs.Seat.{SeatState, StandsFor}
use Rattle.ix_layer_tests.specs.declared.gates.Turn.{Turn}
use Rattle.ix_layer_tests.proofs.gates.join_all.Given as goal

abbrev pub invariant-loop-other : goal.invariant-loop-other
invariant-loop-other l =
    (goal.iterator-loop-other).can_next l.other-iterator × (goal.iterator-loop-other).is_finite l.other-iterator
    × (l.first.gate ≡ l.gate.id) × (l.first.taken ≡ None)
    × All (λ s. (s.gate ≡ l.gate.id) × (s.taken ≡ None)) l.other-iterator.rest.items
    × ((done : List (SeatState (Unit {0}) Turn)) × (l.fn.seats.items ≡ done ++ l.other-iterator.rest.items) × All (λ s. StandsFor l.first s.number) done)
