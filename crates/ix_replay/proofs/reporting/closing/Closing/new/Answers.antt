use Rattle.ix_replay.{specs.report.Telling.left_of, proofs.piecewise.Pieces.closing_is}
use Rattle.ix_replay.proofs.reporting.closing.Closing.new.Goals as goal

pub returns : goal.returns
unfolding left_of
returns c = closing_is _
