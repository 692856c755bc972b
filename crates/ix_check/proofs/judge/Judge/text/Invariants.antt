use Rattle.std.proofs.Common.{length}
use Rattle.ix_check.proofs.WholeText.{IsLeft}
use Rattle.ix_check.proofs.judge.Judge.text.Given as goal

abbrev pub invariant-lines : goal.invariant-lines
invariant-lines g l =
    IsLeft g.L.LaneSteps.at l.fn.self.printer.script.now l.text l.rest l.self.printer.script.now l.self.core l.self.lanes.items l.self.stage

abbrev pub decreases-lines : goal.decreases-lines
decreases-lines g l = length l.rest
