use Rattle.ix_policy_texts.proofs.answers.decide_text.Given as goal

abbrev pub ghosts-decide_text_counted : goal.ghosts-decide_text_counted
ghosts-decide_text_counted a = record { name = a.blank.name; parts = a.blank.parts }
