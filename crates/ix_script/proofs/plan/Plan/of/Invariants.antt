use Rattle.std.proofs.Common.{take}
use Rattle.ix_script.specs.scripts.Held.{IsPlan}
use Rattle.ix_script.proofs.plan.Plan.of.Given as goal

abbrev pub invariant-lines : goal.invariant-lines
invariant-lines l = IsPlan l.plan (take l.index l.lines.said)
