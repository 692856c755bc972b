use Rattle.ix_sessions.proofs.cores.goes_anew.Given as goal

abbrev pub ghosts-goes : goal.ghosts-goes
ghosts-goes a = record { name = a.blank.name; parts = a.blank.parts }
