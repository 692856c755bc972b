use Rattle.ix_iso.proofs.Lowerings.{lowerings_logged}
use Rattle.ix_iso.proofs.laws.lowered_step.Goals as goal

pub returns : goal.returns
returns c = record { logged = lowerings_logged }
