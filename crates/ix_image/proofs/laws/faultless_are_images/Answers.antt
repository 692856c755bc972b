use Rattle.ix_image.proofs.Whole.{faultless}
use Rattle.ix_image.proofs.laws.faultless_are_images.Goals as goal

pub returns : goal.returns
returns c = record { images = faultless }
