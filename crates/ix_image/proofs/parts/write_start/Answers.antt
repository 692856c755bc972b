use Rattle.ix_image.proofs.Saved.{start_goes}
use Rattle.ix_image.proofs.parts.write_start.Goals as goal

pub returns-clause-text : goal.returns-clause-text
returns-clause-text c = start_goes _ _ _ _ c.in_ok-push_start.ensures.text
