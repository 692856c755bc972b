use Rattle.std.proofs.Common.{ap, ◌∙◌, unwrap_or, arith}
use Rattle.ix_model.specs.history.History.{world_of}
use Rattle.ix_image.proofs.Held.{size_few, size_is}
use Rattle.ix_image.proofs.parts.count_held.Goals as goal

pub overflow_cast-result : goal.overflow_cast-result
overflow_cast-result c =
    omega (arith, c.unwrap_or-else-of_dir.ensures ∙ ap (λ o. unwrap_or o 0) c.size.ensures, size_few (world_of c.args.core.now) c.args.n c.requires)

pub returns-else-of_dir : goal.returns-else-of_dir
returns-else-of_dir c = λ x is pipe dir.
    c.unwrap_or-else-of_dir.ensures ∙ ap (λ o. unwrap_or o 0) c.size.ensures ∙ size_is _ _ x is pipe (dir ∙ c.if-of_dir.false)
