use Rattle.ix_model.proofs.told.Entitling.{entitled_entry}
use Rattle.ix_model.proofs.laws.the_entitled_exercise.Goals as goal

pub returns : goal.returns
returns c = record { entitled = entitled_entry }
