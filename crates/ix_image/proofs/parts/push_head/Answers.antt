use Rattle.std.proofs.lemmas.Result.{on_ok_weaker}
use Rattle.ix_image.proofs.{Saved.kept_there, Heads.has_head}
use Rattle.ix_image.proofs.parts.push_head.Goals as goal

pub returns-clause-text : goal.returns-clause-text
returns-clause-text c =
    on_ok_weaker _ (λ last.
    has_head _ _ _ (kept_there _ _ _ c.requires.kept) _ _
    _ _ c.sets.result _
    _ _ _ _ _
    c.is_dir.ensures c.is_dir-2.ensures c.sets.ensures c.the_five.ensures c.the_five-2.ensures c.count_held.ensures c.in_ok-push_four.ensures.text c.in_ok-push_marks.ensures.text
    c.in_ok-push_label.ensures.text last)
    c.push_four-2.ensures.text
