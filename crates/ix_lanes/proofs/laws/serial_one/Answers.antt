use Rattle.ix_lanes.proofs.serially.SerialHistories.{one_serial}
use Rattle.ix_lanes.proofs.laws.serial_one.Goals as goal

pub returns : goal.returns
returns c = record { one = one_serial }
