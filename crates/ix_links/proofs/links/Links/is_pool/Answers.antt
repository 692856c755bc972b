use Rattle.std.proofs.Common.{subst}
use Rattle.ix_links.{specs.Whole.IsPool, proofs.Calls.is_pool}
use Rattle.ix_links.proofs.links.Links.is_pool.Goals as goal

pub returns : goal.returns
returns c = subst IsPool c.self.view_is (is_pool _ c.self.invariant)
