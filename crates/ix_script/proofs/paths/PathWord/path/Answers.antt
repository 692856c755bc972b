use Rattle.std.proofs.Common.{ap, ◌∙◌}
use Rattle.ix_model.specs.world.Texts.{is_path_text}
use Rattle.ix_script.proofs.texts.Paths.{text_of}
use Rattle.ix_script.proofs.paths.PathWord.path.Goals as goal

pub from_text-requires : goal.from_text-requires
from_text-requires c = ap is_path_text c.parts-absolute.ensures.text ∙ text_of _ c.self.invariant
