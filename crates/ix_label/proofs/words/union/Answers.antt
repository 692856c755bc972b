use Rattle.std.proofs.Common.{rules}
use Rattle.ix_label.proofs.words.union.Goals as goal

pub returns-clause-words : goal.returns-clause-words
returns-clause-words c = λ k low. search rules
