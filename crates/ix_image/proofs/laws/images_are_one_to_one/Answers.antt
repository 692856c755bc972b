use Rattle.ix_image.proofs.Whole.{one_to_one}
use Rattle.ix_image.proofs.laws.images_are_one_to_one.Goals as goal

pub returns : goal.returns
returns c = record { one = one_to_one }
