use Rattle.ix_model.proofs.words.There.{objects_there}
use Rattle.ix_model.proofs.laws.objects_are_there.Goals as goal

pub returns : goal.returns
returns c = record { there = objects_there }
