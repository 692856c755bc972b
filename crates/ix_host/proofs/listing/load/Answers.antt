use Rattle.std.proofs.Common.{◌≡◌, Some, Ok, ap, refl, sym, ◌∙◌, subst}
use Rattle.ix_image.specs.Reading.{image_fault, tree_in}
use Rattle.ix_host.proofs.listing.load.Goals as goal

pub returns-in-Ok-clause-ends : goal.returns-in-Ok-clause-ends
returns-in-Ok-clause-ends g c = rw c.in-Ok.ensures.told c.tell_list.ensures

pub returns-in-Ok-clause-image : goal.returns-in-Ok-clause-image
returns-in-Ok-clause-image g c = λ _. record { tree = c.in-Ok.tree; sound = c.in-Ok.ensures.image.0; written = c.in-Ok.ensures.image.1 }
