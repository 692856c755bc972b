use Rattle.ix_model.proofs.sound.Soundly.{sound_step}
use Rattle.ix_model.proofs.laws.steps_keep_worlds_sound.Goals as goal

pub returns : goal.returns
returns c = record { sound = sound_step }
