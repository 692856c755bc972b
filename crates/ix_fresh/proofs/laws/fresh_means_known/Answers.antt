use Rattle.ix_fresh.proofs.Freshly.{fresh_is_known}
use Rattle.ix_fresh.proofs.laws.fresh_means_known.Goals as goal

pub returns : goal.returns
returns c = record { known = fresh_is_known }
