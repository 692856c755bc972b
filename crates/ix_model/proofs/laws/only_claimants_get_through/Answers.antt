use Rattle.ix_model.proofs.paths_and_pipes.Stopping.{stops}
use Rattle.ix_model.proofs.laws.only_claimants_get_through.Goals as goal

pub returns : goal.returns
returns c = record { stopped = stops }
