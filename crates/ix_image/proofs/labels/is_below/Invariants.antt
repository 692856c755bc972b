use Rattle.ix_image.proofs.labels.is_below.Given as goal

abbrev pub ghosts-is_below_counted : goal.ghosts-is_below_counted
ghosts-is_below_counted a = record { name = a.blank.name; parts = a.blank.parts }
