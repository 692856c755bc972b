use Rattle.std.proofs.Common.{◌∙◌}
use Rattle.ix_image.proofs.Placing.{roots_first, roots_other}
use Rattle.ix_image.proofs.fitting.root_links.Goals as goal

pub returns-then-first-ne0 : goal.returns-then-first-ne0
returns-then-first-ne0 c = c.none-then-first-ne0.ensures ∙ roots_other _ _ c.requires c.in-Some.ensures.item.3.0 c.in-Some.ensures.item.1 c.if-first-ne0.true

pub returns : goal.returns
returns c = c.links.ensures ∙ roots_first _ _ c.requires c.in-Some.ensures.item.3.0 c.in-Some.ensures.item.1 c.if-first-ne0.false
