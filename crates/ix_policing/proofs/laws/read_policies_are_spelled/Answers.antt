use Rattle.ix_policing.proofs.Readings.{read_spelled}
use Rattle.ix_policing.proofs.laws.read_policies_are_spelled.Goals as goal

pub returns : goal.returns
returns c = record { law = read_spelled }
