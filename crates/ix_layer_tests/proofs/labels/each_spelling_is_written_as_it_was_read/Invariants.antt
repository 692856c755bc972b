use Rattle.ix_layer_tests.proofs.labels.each_spelling_is_written_as_it_was_read.Given as goal

abbrev pub ghosts-respell : goal.ghosts-respell
ghosts-respell g a = record { name = a.blank.name; parts = a.blank.parts }
