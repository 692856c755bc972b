use Rattle.ix_fresh.proofs.Remaining.{descriptors_remain}
use Rattle.ix_fresh.proofs.laws.descriptors_stay.Goals as goal

pub returns : goal.returns
returns c = record { stay = descriptors_remain }
