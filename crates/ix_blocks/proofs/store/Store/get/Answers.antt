use Rattle.ix_blocks.proofs.Storing.{held_of}
use Rattle.ix_blocks.proofs.store.Store.get.Goals as goal

pub fetch-requires-clause-held : goal.fetch-requires-clause-held
fetch-requires-clause-held c = held_of _ _ c.self.invariant _ c.self.view_is _ c.requires.file _ c.requires.held
