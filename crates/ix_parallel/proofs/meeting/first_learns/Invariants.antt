use Rattle.std.proofs.Common.{◌<◌}
use Rattle.ix_parallel.specs.Meeting.{FirstLearns}
use Rattle.ix_parallel.proofs.meeting.first_learns.Given as goal

abbrev pub invariant-loop-other : goal.invariant-loop-other
invariant-loop-other g l = record {
  met : FirstLearns l.parts l.other l.fn.lanes l.lanes;
  some : 0 < l.other;
}
