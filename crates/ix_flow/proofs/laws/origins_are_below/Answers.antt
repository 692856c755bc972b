use Rattle.ix_flow.proofs.Staying.{origins_below}
use Rattle.ix_flow.proofs.laws.origins_are_below.Goals as goal

pub returns : goal.returns
returns c = record { law = origins_below }
