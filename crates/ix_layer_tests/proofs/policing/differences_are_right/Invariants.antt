use Rattle.ix_layer_tests.proofs.policing.differences_are_right.Given as goal

abbrev pub ghosts-differences_agree : goal.ghosts-differences_agree
ghosts-differences_agree a = record { name = a.blank.name; parts = a.blank.parts }
