use Rattle.ix_iso.proofs.InLength.{isolated_in_length}
use Rattle.ix_iso.proofs.laws.isolation_in_length.Goals as goal

pub returns : goal.returns
returns c = record { isolated = isolated_in_length }
