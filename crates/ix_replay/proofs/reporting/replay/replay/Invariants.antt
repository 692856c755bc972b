use Rattle.ix_replay.proofs.reporting.replay.replay.Given as goal

abbrev pub ghosts-replay_anew : goal.ghosts-replay_anew
ghosts-replay_anew g a = record { name = a.blank.name; parts = a.blank.parts }
