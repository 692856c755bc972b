use Rattle.ix_iso.proofs.Opened.{opened_alike}
use Rattle.ix_iso.proofs.laws.configs_alike.Goals as goal

pub returns : goal.returns
returns c = record { alike = opened_alike }
