use Rattle.ix_core.proofs.Seated.{makes, makes_next, goes, costs}
use Rattle.ix_core.proofs.keeper.Core.call.Goals as goal

pub returns-clause-next : goal.returns-clause-next
returns-clause-next c = makes_next _ _ _ _ _ _ _ _ _ c.step_uncounted.ensures.step

pub returns-clause-made : goal.returns-clause-made
returns-clause-made c = makes _ _ _ _ _ _ _ _ _ c.step_uncounted.ensures.step

pub returns-clause-on : goal.returns-clause-on
returns-clause-on c = goes _ _ _ _ _ _ _ _ _ c.step_uncounted.ensures.step

pub returns-clause-costs : goal.returns-clause-costs
returns-clause-costs c = costs _ _ _ _ _ _ _ _ _ c.step_uncounted.ensures.step
