use Rattle.std.proofs.Common.{◌∙◌}
use Rattle.ix_check.proofs.LaneTold.{name_here, name_not}
use Rattle.ix_check.proofs.told.names_lane.Goals as goal

pub returns-in-Some : goal.returns-in-Some
returns-in-Some c = c.is_some.ensures ∙ name_here _ _ _ _ c.in-Some.ensures c.behind-in-Some.ensures

pub returns-in-None : goal.returns-in-None
returns-in-None c = name_not _ _ c.in-None.ensures
