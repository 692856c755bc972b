use Rattle.std.proofs.Common.{◌≡◌, length}
use Rattle.ix_gate.specs.Gate.{GateState}
use Rattle.ix_lanes.specs.running.Phases.{lines_before}
use Rattle.ix_parallel.specs.Between.{Between}
use Rattle.ix_parallel.proofs.phases.run_each.Given as goal

abbrev pub invariant-loop-phase : goal.invariant-loop-phase
invariant-loop-phase g l = record {
  at : (kernel : GateState) → Between l.script kernel 0 l.fn.lanes → Between l.script kernel l.phase l.lanes;
  end : l.end ≡ length (lines_before l.phase l.script);
}
