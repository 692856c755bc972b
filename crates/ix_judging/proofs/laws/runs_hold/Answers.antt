use Rattle.ix_judging.proofs.GoodRuns.{takes_hold}
use Rattle.ix_judging.proofs.laws.runs_hold.Goals as goal

pub returns : goal.returns
returns c = record { hold = λ p at events takes. takes_hold p at events takes }
