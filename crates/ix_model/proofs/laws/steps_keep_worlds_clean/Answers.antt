use Rattle.ix_model.proofs.clean.Cleaning.{clean_step}
use Rattle.ix_model.proofs.laws.steps_keep_worlds_clean.Goals as goal

pub returns : goal.returns
returns c = record { clean = clean_step }
