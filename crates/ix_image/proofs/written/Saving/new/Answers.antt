use Rattle.std.proofs.Common.{refl}
use Rattle.ix_image.specs.Written.{left_of}
use Rattle.ix_image.proofs.written.Saving.new.Goals as goal

pub returns-clause-all : goal.returns-clause-all
unfolding left_of
returns-clause-all c = refl
