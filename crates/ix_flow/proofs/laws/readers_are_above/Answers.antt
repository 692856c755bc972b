use Rattle.ix_flow.proofs.Staying.{readers_above}
use Rattle.ix_flow.proofs.laws.readers_are_above.Goals as goal

pub returns : goal.returns
returns c = record { law = readers_above }
