use Rattle.std.proofs.Common.{◌++◌, ap, ◌∙◌}
use Rattle.ix_image.proofs.Going.{when_ok, wrote}
use Rattle.ix_image.proofs.written.Saving.write.Goals as goal

pub returns-in-Ok-clause-ok : goal.returns-in-Ok-clause-ok
returns-in-Ok-clause-ok c =
    when_ok _ _ (wrote _ _ _ _ _ _ c.requires.begun c.in-Ok.ensures.text
    c.begin-line.ensures.text
    (c.end.ensures.ok ∙ ap (λ r. r ++ c.piece.new.line.text) (c.piece.ensures.stays ∙ c.begin-line.ensures.before)))
