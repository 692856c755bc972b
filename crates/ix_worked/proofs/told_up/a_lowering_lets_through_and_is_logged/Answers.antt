use Rattle.ix_worked.proofs.ToldUp.{lowered_files_agree, third_crosses_bottom}
use Rattle.ix_worked.proofs.told_up.a_lowering_lets_through_and_is_logged.Goals as goal

pub returns-clause-agree : goal.returns-clause-agree
returns-clause-agree c = lowered_files_agree

pub returns-clause-crosses : goal.returns-clause-crosses
returns-clause-crosses c = third_crosses_bottom
