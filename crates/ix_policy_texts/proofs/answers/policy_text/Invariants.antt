use Rattle.ix_policy_texts.proofs.answers.policy_text.Given as goal

abbrev pub ghosts-policy_text_counted : goal.ghosts-policy_text_counted
ghosts-policy_text_counted a = record { name = a.blank.name; parts = a.blank.parts }
