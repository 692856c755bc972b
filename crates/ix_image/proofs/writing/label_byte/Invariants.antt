use Rattle.ix_image.proofs.writing.label_byte.Given as goal

abbrev pub ghosts-label_byte_counted : goal.ghosts-label_byte_counted
ghosts-label_byte_counted a = record { name = a.blank.name; parts = a.blank.parts }
