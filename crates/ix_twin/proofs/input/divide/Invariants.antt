use Rattle.std.proofs.Common.{length}
use Rattle.ix_twin.proofs.InputParts.{IsBehind}
use Rattle.ix_twin.proofs.input.divide.Given as goal

abbrev pub invariant-lines : goal.invariant-lines
invariant-lines l = IsBehind l.input l.rest l.lines

abbrev pub decreases-lines : goal.decreases-lines
decreases-lines l = length l.rest
