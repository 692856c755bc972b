use Rattle.ix_core.proofs.keeper.Core.call.Given as goal

abbrev pub ghosts-step_uncounted : goal.ghosts-step_uncounted
ghosts-step_uncounted a = record { name = a.blank.name; parts = a.blank.parts }
