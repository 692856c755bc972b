use Rattle.std.proofs.Common.{length}
use Rattle.ix_check.proofs.InputParts.{IsBehind}
use Rattle.ix_check.proofs.input.parts.Given as goal

abbrev pub invariant-lines : goal.invariant-lines
invariant-lines l = IsBehind l.input l.rest

abbrev pub decreases-lines : goal.decreases-lines
decreases-lines l = length l.rest
