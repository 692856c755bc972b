use Rattle.ix_proc.proofs.Hanging.{hangs_found}
use Rattle.ix_proc.proofs.search.chain_behind.Goals as goal

pub returns : goal.returns
returns c = hangs_found _ _ _ _ _ _ c.requires.rises c.in-Some.is c.in-Some-place_of.ensures
