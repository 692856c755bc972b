use Rattle.std.proofs.Common.{length}
use Rattle.ix_judging.proofs.PhaseRuns.{goes_good, good_goes}
use Rattle.ix_judging.proofs.laws.phases_go.Goals as goal

pub returns : goal.returns
returns c = record { good = λ p at lawful events. (goes_good p (length at.lanes) lawful at events, good_goes p (length at.lanes) lawful at events) }
