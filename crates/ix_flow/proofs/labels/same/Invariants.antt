use Rattle.ix_flow.proofs.labels.same.Given as goal

abbrev pub ghosts-same_counted : goal.ghosts-same_counted
ghosts-same_counted a = record { name = a.blank.name; parts = a.blank.parts }
