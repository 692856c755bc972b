use Rattle.ix_model.proofs.told.Logs.{logged_run}
use Rattle.ix_model.proofs.laws.the_log_is_the_licensed_acts.Goals as goal

pub returns : goal.returns
returns c = record { log = logged_run }
