use Rattle.ix_model.proofs.opening.Openings.{clean_opening}
use Rattle.ix_model.proofs.laws.opening_worlds_are_clean.Goals as goal

pub returns : goal.returns
returns c = record { clean = clean_opening }
