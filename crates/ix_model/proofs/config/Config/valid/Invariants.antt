use Rattle.ix_model.proofs.config.Config.valid.Given as goal

abbrev pub ghosts-is_valid : goal.ghosts-is_valid
ghosts-is_valid a = record { name = a.blank.name; parts = a.blank.parts }
