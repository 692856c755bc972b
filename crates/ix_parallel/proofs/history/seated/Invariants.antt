use Rattle.ix_parallel.specs.Seats.{SeatedSoFar}
use Rattle.ix_parallel.proofs.history.seated.Given as goal

abbrev pub invariant-loop-seat : goal.invariant-loop-seat
invariant-loop-seat g l =
    (goal.iterator-loop-seat g).can_next l.seat-iterator × (goal.iterator-loop-seat g).is_finite l.seat-iterator
    × SeatedSoFar l.script l.kernel l.fn.seats.items l.seat-iterator.rest.items l.number l.lanes.items
