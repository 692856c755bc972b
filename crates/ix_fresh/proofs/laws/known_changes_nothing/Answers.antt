use Rattle.ix_fresh.proofs.Nothing.{known_changes_nothing}
use Rattle.ix_fresh.proofs.laws.known_changes_nothing.Goals as goal

pub returns : goal.returns
returns c = record { nothing = known_changes_nothing }
