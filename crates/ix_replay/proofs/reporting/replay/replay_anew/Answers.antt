use Rattle.ix_script.specs.scripts.Scripts.{config_of}
use Rattle.ix_replay.proofs.reporting.replay.replay_anew.Goals as goal

pub replay_on-requires-clause-fits : goal.replay_on-requires-clause-fits
unfolding config_of
replay_on-requires-clause-fits g c = rw c.requires.config c.requires.fits
