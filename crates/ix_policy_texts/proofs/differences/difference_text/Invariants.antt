use Rattle.ix_policy_texts.proofs.differences.difference_text.Given as goal

abbrev pub ghosts-difference_counted : goal.ghosts-difference_counted
ghosts-difference_counted a = record { name = a.blank.name; parts = a.blank.parts }
