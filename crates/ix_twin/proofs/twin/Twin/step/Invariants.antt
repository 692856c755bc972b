use Rattle.ix_twin.proofs.twin.Twin.step.Given as goal

abbrev pub ghosts-step_uncounted : goal.ghosts-step_uncounted
ghosts-step_uncounted a = record { name = a.blank.name; parts = a.blank.parts }
