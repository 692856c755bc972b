use Rattle.ix_lanes.proofs.serially.Fitted.{history_fits}
use Rattle.ix_lanes.proofs.laws.histories_fit.Goals as goal

pub returns : goal.returns
returns c = record { fit = history_fits }
