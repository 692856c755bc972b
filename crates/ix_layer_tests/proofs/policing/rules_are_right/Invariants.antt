use Rattle.ix_layer_tests.proofs.policing.rules_are_right.Given as goal

abbrev pub ghosts-rules_agree : goal.ghosts-rules_agree
ghosts-rules_agree a = record { name = a.blank.name; parts = a.blank.parts }
