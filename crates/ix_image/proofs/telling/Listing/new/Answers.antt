use Rattle.std.proofs.Common.{refl}
use Rattle.ix_image.specs.{Lines.list_of, Telling.left_of}
use Rattle.ix_image.proofs.telling.Listing.new.Goals as goal

pub returns : goal.returns
unfolding left_of list_of
returns c = refl
