use Rattle.ix_judging.proofs.Scripts.{good_history, history_good, lawful}
use Rattle.ix_judging.proofs.laws.scripts_are_plans.Goals as goal

pub returns : goal.returns
returns c = record { plans = λ s count is. (lawful s count is, λ w events. (history_good s count is w events, good_history s count is w events)) }
