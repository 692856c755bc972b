use Rattle.std.proofs.Common.{sym}
use Rattle.ix_image.proofs.Placing.{object_here}
use Rattle.ix_image.proofs.places.has_object.Goals as goal

pub returns-in-Some : goal.returns-in-Some
returns-in-Some c = sym (object_here _ _ _ c.in-Some.ensures.some)
