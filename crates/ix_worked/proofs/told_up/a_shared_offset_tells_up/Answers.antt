use Rattle.ix_worked.proofs.ToldUp.{offsets_agree}
use Rattle.ix_worked.proofs.told_up.a_shared_offset_tells_up.Goals as goal

pub returns-clause-agree : goal.returns-clause-agree
returns-clause-agree c = offsets_agree
