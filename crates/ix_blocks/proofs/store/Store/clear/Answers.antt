use Rattle.std.proofs.{Common.{ap, ◌∙◌}, lemmas.List.take-replicate}
use Rattle.ix_blocks.specs.Wholes.{with_laid_over}
use Rattle.ix_blocks.proofs.store.Store.clear.Goals as goal

pub returns : goal.returns
returns c = c.put.ensures ∙ ap (λ zs. with_laid_over c.args.file c.args.place zs c.args.self.now) (take-replicate _ 512 0 c.requires.few)
