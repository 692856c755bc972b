use Rattle.ix_model.proofs.paths_and_pipes.Claimed.{claimants_read}
use Rattle.ix_model.proofs.laws.claimants_read_what_claimants_wrote.Goals as goal

pub returns : goal.returns
returns c = record { inside = claimants_read }
