use Rattle.ix_policy_texts.proofs.answers.can_text.Given as goal

abbrev pub ghosts-can_text_counted : goal.ghosts-can_text_counted
ghosts-can_text_counted a = record { name = a.blank.name; parts = a.blank.parts }
