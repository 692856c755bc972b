use Rattle.ix_lanes.proofs.serially.SerialHistories.{serial_serial}
use Rattle.ix_lanes.proofs.laws.serial_is_serial.Goals as goal

pub returns : goal.returns
returns c = record { serial = serial_serial }
