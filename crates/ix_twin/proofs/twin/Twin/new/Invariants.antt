use Rattle.ix_twin.proofs.twin.Twin.new.Given as goal

abbrev pub ghosts-configs_alike : goal.ghosts-configs_alike
ghosts-configs_alike a = record { name = a.blank.name; parts = a.blank.parts }
