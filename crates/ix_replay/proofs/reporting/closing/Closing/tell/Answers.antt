use Rattle.ix_replay.proofs.piecewise.Pieces.{ended}
use Rattle.ix_replay.proofs.reporting.closing.Closing.tell.Goals as goal

pub returns-in-End : goal.returns-in-End
returns-in-End c = absurd (ended c.args.self.now c.in-End.is c.requires)
