use Rattle.ix_text.proofs.labels.push_label.Given as goal

abbrev pub ghosts-push_spelling : goal.ghosts-push_spelling
ghosts-push_spelling a = record { name = a.blank.name; parts = a.blank.parts }
