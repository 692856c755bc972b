use Rattle.ix_layer_tests.proofs.labels.labels_compare_as_sets.Given as goal

abbrev pub ghosts-compare : goal.ghosts-compare
ghosts-compare g a = record { name = a.blank.name; parts = a.blank.parts }
