use Rattle.std.proofs.Common.{length}
use Rattle.ix_judging.proofs.GoodRuns.{good_runs, runs_good}
use Rattle.ix_judging.proofs.laws.runs_are_good.Goals as goal

pub returns : goal.returns
returns c = record { good = λ p at lawful events. (runs_good p (length at.lanes) lawful at events, good_runs p at events) }
