use Rattle.ix_lanes.proofs.serially.AllPhases.{all_phases}
use Rattle.ix_lanes.proofs.laws.phases_are_all.Goals as goal

pub returns : goal.returns
returns c = record { phases = all_phases }
