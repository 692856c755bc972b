use Rattle.ix_check.proofs.Judged.{judged}
use Rattle.ix_check.proofs.laws.texts_are_judged.Goals as goal

pub returns-clause-judged : goal.returns-clause-judged
returns-clause-judged c = judged
