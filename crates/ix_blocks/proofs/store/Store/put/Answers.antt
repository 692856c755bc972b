use Rattle.ix_blocks.proofs.Storing.{held_of}
use Rattle.ix_blocks.proofs.store.Store.put.Goals as goal

pub lay-requires-clause-held : goal.lay-requires-clause-held
lay-requires-clause-held c = held_of _ _ c.self.invariant _ c.self.view_is _ c.requires.file _ c.requires.held
