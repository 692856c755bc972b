use Rattle.ix_script.proofs.reader.Stretched.{lanes_are_stretches, stretches_stand}
use Rattle.ix_script.proofs.laws.lanes_are_stretches.Goals as goal

pub returns-clause-lines : goal.returns-clause-lines
returns-clause-lines c = lanes_are_stretches

pub returns-clause-phases : goal.returns-clause-phases
returns-clause-phases c = stretches_stand
