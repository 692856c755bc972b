use Rattle.std.proofs.{Common.{replicate, ap, ◌∙◌}, lemmas.Result.IfOk-weaker}
use Rattle.ix_marks.specs.Places.{row_of}
use Rattle.ix_marks.proofs.row.empty_rows.Goals as goal

pub returns : goal.returns
returns c = IfOk-weaker c.vec.result _ _ (λ v h. h (λ y e. e) ∙ ap (replicate c.args.rows) (c.all-row.ensures ∙ ap row_of c.empty.ensures)) c.vec.ensures.items_if_clones_equal
