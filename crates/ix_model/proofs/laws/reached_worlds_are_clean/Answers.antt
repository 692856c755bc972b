use Rattle.ix_model.proofs.clean.Cleaning.{clean_reached}
use Rattle.ix_model.proofs.laws.reached_worlds_are_clean.Goals as goal

pub returns : goal.returns
returns c = record { clean = clean_reached }
