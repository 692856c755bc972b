use Rattle.ix_policing.proofs.Found.{of_rules}
use Rattle.ix_policing.proofs.laws.differences_are_of_rules.Goals as goal

pub returns : goal.returns
returns c = record { law = of_rules }
