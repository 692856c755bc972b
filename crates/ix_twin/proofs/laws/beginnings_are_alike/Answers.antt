use Rattle.ix_twin.proofs.LinesAlike.{beginnings_are_alike}
use Rattle.ix_twin.proofs.laws.beginnings_are_alike.Goals as goal

pub returns : goal.returns
returns c = record { alike = beginnings_are_alike c.configs_alike.ensures.alike }
