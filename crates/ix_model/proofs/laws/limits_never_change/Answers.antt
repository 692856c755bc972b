use Rattle.ix_model.proofs.words.Constant.{limits_stay}
use Rattle.ix_model.proofs.laws.limits_never_change.Goals as goal

pub returns : goal.returns
returns c = record { limits = limits_stay }
