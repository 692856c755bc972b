use Rattle.ix_layer_tests.proofs.policies.decision.Given as goal

abbrev pub ghosts-decided : goal.ghosts-decided
ghosts-decided a = record { name = a.blank.name; parts = a.blank.parts }
