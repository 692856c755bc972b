use Rattle.std.proofs.Common.{◌-◌}
use Rattle.ix_label.proofs.Walk.{IsSpelledBelow}
use Rattle.ix_label.proofs.label.Label.push_runs.Given as goal

abbrev pub invariant-loop-first : goal.invariant-loop-first
invariant-loop-first l = IsSpelledBelow l.self l.from l.out

abbrev pub decreases-loop-first : goal.decreases-loop-first
decreases-loop-first l = 512 - l.from
