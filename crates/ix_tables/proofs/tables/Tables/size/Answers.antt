use Rattle.std.proofs.Common.{Some, None}
use Rattle.ix_tables.proofs.Holding.{size_there}
use Rattle.ix_tables.proofs.tables.Tables.size.Goals as goal

pub returns-in-Some : goal.returns-in-Some
returns-in-Some c = size_there _ _ _ _ _ _ _ _ c.self.invariant c.self.view_is c.args.n c.requires (Some c.in-Some.inode) c.in-Some.ensures.told

pub returns-in-None : goal.returns-in-None
returns-in-None c = size_there _ _ _ _ _ _ _ _ c.self.invariant c.self.view_is c.args.n c.requires None c.in-None.ensures.told
