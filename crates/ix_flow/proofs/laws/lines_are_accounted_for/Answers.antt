use Rattle.ix_flow.proofs.Pieces.{lines_accounted}
use Rattle.ix_flow.proofs.laws.lines_are_accounted_for.Goals as goal

pub returns : goal.returns
returns c = record { law = lines_accounted }
