use Rattle.ix_model.proofs.told.Touching.{few_labels}
use Rattle.ix_model.proofs.laws.calls_touch_few_labels.Goals as goal

pub returns : goal.returns
returns c = record { few = few_labels }
