use Rattle.ix_check.{specs.Stepping.{is_from, next_phase}, proofs.LookedAt.IsLeft}
use Rattle.ix_check.proofs.lane.all_from.Given as goal

abbrev pub invariant-loop-lane : goal.invariant-loop-lane
invariant-loop-lane g l = IsLeft (λ x. is_from l.phase (next_phase (g.L.LaneSteps.at x))) l.lanes l.lane-index
