use Rattle.std.proofs.Common.{◌∙◌}
use Rattle.ix_image.proofs.Searching.{finds_begin, finds_more, finds_end}
use Rattle.ix_image.proofs.reaching.Found.follow.Goals as goal

pub links-init : goal.links-init
links-init c = finds_begin _ _ _ _

pub find-requires-clause-long : goal.find-requires-clause-long
find-requires-clause-long c = c.links.invariant.finds.long ∙ c.requires.long

pub links-preserved : goal.links-preserved
links-preserved c = finds_more _ _ _ _ _ _ _ _ _ _ _ c.in-Some.ensures
    c.links.invariant c.in_ok-find.ensures

pub returns : goal.returns
returns c = finds_end _ _ _ _ _ _ _ c.in_default.ensures c.links.invariant
