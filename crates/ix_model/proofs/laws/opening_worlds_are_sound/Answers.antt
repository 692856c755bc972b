use Rattle.ix_model.proofs.sound.Reaching.{sound_opening_world}
use Rattle.ix_model.proofs.laws.opening_worlds_are_sound.Goals as goal

pub returns : goal.returns
returns c = record { sound = sound_opening_world }
