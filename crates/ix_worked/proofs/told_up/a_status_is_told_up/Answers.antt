use Rattle.ix_worked.proofs.ToldUp.{statuses_agree}
use Rattle.ix_worked.proofs.told_up.a_status_is_told_up.Goals as goal

pub returns-clause-agree : goal.returns-clause-agree
returns-clause-agree c = statuses_agree
