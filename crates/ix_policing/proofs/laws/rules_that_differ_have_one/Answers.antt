use Rattle.ix_policing.proofs.Found.{have_one}
use Rattle.ix_policing.proofs.laws.rules_that_differ_have_one.Goals as goal

pub returns : goal.returns
returns c = record { law = have_one }
