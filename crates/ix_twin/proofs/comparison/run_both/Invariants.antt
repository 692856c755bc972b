use Rattle.std.proofs.Common.{◌≡◌}
use Rattle.ix_lanes.specs.running.Serially.{most_entries}
use Rattle.ix_twin.specs.Running.{Compares}
use Rattle.ix_twin.proofs.comparison.run_both.Given as goal

abbrev pub invariant-turns : goal.invariant-turns
invariant-turns l = record {
  first : l.first.script.now ≡ l.initial.first.script.now;
  second : l.second.script.now ≡ l.initial.second.script.now;
  compares : Compares l.initial.twin.at l.initial.first.script.now l.initial.second.script.now (record {
    twins = l.twin;
    first = l.first.calls;
    second =
        l.second.calls;
  }) l.lines.items l.agreed l.places;
}

abbrev pub decreases-turns : goal.decreases-turns
decreases-turns l = most_entries l.first.calls
