use Rattle.ix_judging.proofs.LaneLines.{lines_are}
use Rattle.ix_judging.proofs.laws.lines_are_lanes.Goals as goal

pub returns : goal.returns
returns c = record { lanes = λ seat phase line_asks within k most few lines names rise. lines_are seat phase line_asks within k most few 0 lines names rise }
