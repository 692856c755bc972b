use Rattle.ix_tables.proofs.FreePipes.{within}
use Rattle.ix_tables.proofs.tables.Tables.open.Goals as goal

pub open-requires-clause-object : goal.open-requires-clause-object
open-requires-clause-object c = within _ _ _ _ _ _ _ _ c.self.invariant c.self.view_is c.args.n c.requires.object
