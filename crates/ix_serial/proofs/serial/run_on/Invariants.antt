use Rattle.std.proofs.Common.{◌≡◌}
use Rattle.ix_lanes.specs.running.Serially.{most_entries}
use Rattle.ix_core.specs.Seen.{KnowsOn}
use Rattle.ix_serial.specs.Running.{Stands}
use Rattle.ix_serial.proofs.serial.run_on.Given as goal

abbrev pub invariant-entries : goal.invariant-entries
invariant-entries g l = record {
  script : l.calls.script ≡ l.fn.script;
  stands : Stands l.core l.calls;
  seen : KnowsOn g.W.Witness.knows l.fn.core l.fn.witness l.core l.witness;
}

abbrev pub decreases-entries : goal.decreases-entries
decreases-entries g l = most_entries l.calls
