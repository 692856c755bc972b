use Rattle.std.proofs.Common.{sym, ◌∙◌}
use Rattle.ix_twin.proofs.Logged.{crossing_told}
use Rattle.ix_twin.proofs.tests.has_crossed.Goals as goal

pub returns-in-Some : goal.returns-in-Some
returns-in-Some g c old e made count =
    c.tells_fall.ensures ∙ crossing_told _ _ _ e _ _ (sym c.in-Some.is ∙ c.log_line.ensures) made count

pub returns-in-None : goal.returns-in-None
returns-in-None g c old e made count =
    crossing_told _ _ _ e _ _ (sym c.in-None.is ∙ c.log_line.ensures) made count
