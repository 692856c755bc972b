use Rattle.std.proofs.Common.{◌≤◌, length}
use Rattle.ix_lanes.proofs.phased.PhaseLines.{Left}
use Rattle.ix_lanes.proofs.running.phases.phase_end.Given as goal

abbrev pub invariant-loop-index : goal.invariant-loop-index
invariant-loop-index l = record {
  left : Left l.script l.phase l.index l.passed;
  within : l.index ≤ length l.script;
}
