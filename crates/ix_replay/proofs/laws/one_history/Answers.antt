use Rattle.ix_replay.proofs.report.{Fixed.one_history, ReadLanes.scripts_named}
use Rattle.ix_replay.proofs.laws.one_history.Goals as goal

pub returns : goal.returns
returns c = record { names = scripts_named c.line_stays.ensures; one = one_history }
