use Rattle.std.proofs.Common.{◌<◌}
use Rattle.ix_parallel.specs.Meeting.{LearnOfFirst}
use Rattle.ix_parallel.proofs.meeting.learn_of_first.Given as goal

abbrev pub invariant-loop-one : goal.invariant-loop-one
invariant-loop-one g l = record {
  met : LearnOfFirst l.parts l.one l.fn.lanes l.lanes;
  some : 0 < l.one;
}
