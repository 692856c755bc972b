use Rattle.ix_model.proofs.told.Spent.{spent_run}
use Rattle.ix_model.proofs.laws.pids_are_never_used_again.Goals as goal

pub returns : goal.returns
returns c = record { spent = spent_run }
