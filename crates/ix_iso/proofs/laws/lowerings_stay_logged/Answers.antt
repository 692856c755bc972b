use Rattle.ix_iso.proofs.Lowerings.{lowerings_stay}
use Rattle.ix_iso.proofs.laws.lowerings_stay_logged.Goals as goal

pub returns : goal.returns
returns c = record { stand = lowerings_stay }
