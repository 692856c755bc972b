use Rattle.ix_check.proofs.LaneCalls.{script_lane}
use Rattle.ix_check.proofs.laws.lanes_are_lanes.Goals as goal

pub returns : goal.returns
returns c = record { lanes = script_lane }
