use Rattle.ix_asking.proofs.serving.deciding.decided.Given as goal

abbrev pub ghosts-decided_counting : goal.ghosts-decided_counting
ghosts-decided_counting a = record { name = a.blank.name; parts = a.blank.parts }
