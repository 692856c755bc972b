use Rattle.std.proofs.Common.{length}
use Rattle.ix_judging.proofs.Endings.{front_ends, lines_begin}
use Rattle.ix_judging.proofs.laws.runs_end.Goals as goal

pub returns : goal.returns
returns c = record { ends = λ p at lawful events takes. (front_ends p (length at.lanes) lawful at events takes, lines_begin p (length at.lanes) lawful at events takes) }
