use Rattle.std.proofs.Common.{drop, length}
use Rattle.ix_script.specs.scripts.Schedule.{stretches_of}
use Rattle.ix_lanes.specs.running.{Phases.lines_before, Stretches.AreLeft}
use Rattle.ix_lanes.proofs.running.phases.has_part.Given as goal

abbrev pub invariant-loop-n : goal.invariant-loop-n
invariant-loop-n l = record {
  left : AreLeft l.script l.lane (length (lines_before l.phase l.script)) (drop l.fn.come (stretches_of l.script l.lane))
      → AreLeft l.script l.lane (length (lines_before l.phase l.script)) (drop l.n (stretches_of l.script l.lane));
}
