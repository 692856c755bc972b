use Rattle.ix_parallel.specs.Joining.{JoinedSoFar}
use Rattle.ix_parallel.proofs.history.join_all.Given as goal

abbrev pub invariant-loop-lane : goal.invariant-loop-lane
invariant-loop-lane g l =
    (goal.iterator-loop-lane g).can_next l.lane-iterator × (goal.iterator-loop-lane g).is_finite l.lane-iterator
    × JoinedSoFar l.kernel l.fn.lanes.items l.lane-iterator.rest.items l.first
