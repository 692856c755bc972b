use Rattle.ix_worked.proofs.ToldUp.{pipes_agree}
use Rattle.ix_worked.proofs.told_up.a_pipe_tells_up.Goals as goal

pub returns-clause-agree : goal.returns-clause-agree
returns-clause-agree c = pipes_agree
