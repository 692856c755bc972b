use Rattle.std.proofs.Common.{◌≡◌, ◌+◌, ◌≤◌, drop}
use Rattle.ix_script.specs.lines.Before.{proc_names}
use Rattle.ix_lanes.specs.histories.Serial.{header_of, numbered}
use Rattle.ix_lanes.proofs.lanes.header_of.Given as goal

abbrev pub invariant-loop-index : goal.invariant-loop-index
invariant-loop-index l = record {
  names : numbered (l.count + 1) (proc_names (drop l.index l.script)) l.header ≡ header_of l.script;
  few : l.count ≤ l.index;
}
