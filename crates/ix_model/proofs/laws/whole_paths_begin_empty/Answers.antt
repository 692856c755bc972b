use Rattle.ix_model.proofs.paths_and_pipes.Wholes.{becomes_empty}
use Rattle.ix_model.proofs.laws.whole_paths_begin_empty.Goals as goal

pub returns : goal.returns
returns c = record { empty = becomes_empty }
