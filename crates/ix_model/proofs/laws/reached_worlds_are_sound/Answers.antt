use Rattle.ix_model.proofs.sound.Reaching.{sound_reached}
use Rattle.ix_model.proofs.laws.reached_worlds_are_sound.Goals as goal

pub returns : goal.returns
returns c = record { sound = sound_reached }
