use Rattle.std.proofs.Common.{is_none}
use Rattle.ix_check.{specs.Stepping.next_call, proofs.LookedAt.IsLeft}
use Rattle.ix_check.proofs.lane.all_over.Given as goal

abbrev pub invariant-loop-lane : goal.invariant-loop-lane
invariant-loop-lane g l = IsLeft (λ x. is_none (next_call (g.L.LaneSteps.at x))) l.lanes l.lane-index
