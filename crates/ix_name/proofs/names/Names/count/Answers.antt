use Rattle.ix_name.proofs.Found.{counted}
use Rattle.ix_name.proofs.names.Names.count.Goals as goal

pub returns : goal.returns
returns c = counted _ _ _ _ _ c.self.invariant _ c.self.view_is c.args.dir.0 _ c.requires c.index.ensures
