use Rattle.std.proofs.Common.{◌∙◌, sym, rules}
use Rattle.ix_flow.proofs.LastSource.{ascends, first_begins, none_begins}
use Rattle.ix_flow.proofs.side.Side.first_within.Goals as goal

pub returns-in-Some-clause-none : goal.returns-in-Some-clause-none
returns-in-Some-clause-none c =
    first_begins 0 _ _ _ _ _ _ (ascends _ c.range.ensures.ordered) (search rules)
    (sym (c.range.ensures.between tt) ∙ c.in-Some.ensures.steps)

pub returns-in-None-clause-none : goal.returns-in-None-clause-none
returns-in-None-clause-none c = none_begins _ _ _ (sym (c.range.ensures.between tt) ∙ c.in-None.ensures.steps.0)
