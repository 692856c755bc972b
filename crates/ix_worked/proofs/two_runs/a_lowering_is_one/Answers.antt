use Rattle.ix_worked.proofs.runs.Falling.{third_lowers, third_crosses}
use Rattle.ix_worked.proofs.two_runs.a_lowering_is_one.Goals as goal

pub returns-clause-lowered : goal.returns-clause-lowered
returns-clause-lowered c = third_lowers

pub returns-clause-crosses : goal.returns-clause-crosses
returns-clause-crosses c = third_crosses
