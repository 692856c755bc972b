use Rattle.ix_image.proofs.Whole.{tree_again}
use Rattle.ix_image.proofs.laws.written_is_read.Goals as goal

pub returns : goal.returns
returns c = record { read = tree_again }
