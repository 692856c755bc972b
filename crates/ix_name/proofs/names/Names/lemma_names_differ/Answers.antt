use Rattle.ix_name.proofs.Found.{different}
use Rattle.ix_name.proofs.names.Names.lemma_names_differ.Goals as goal

pub returns : goal.returns
returns c = different _ _ _ _ _ c.self.invariant _ c.self.view_is c.is_pool.ensures c.args.dir.0
