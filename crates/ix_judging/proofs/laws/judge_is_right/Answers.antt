use Rattle.std.proofs.Common.{length, refl}
use Rattle.ix_judging.proofs.Judged.{judge_is_right}
use Rattle.ix_judging.proofs.laws.judge_is_right.Goals as goal

pub returns : goal.returns
returns c = record { right = λ p at lawful text found. judge_is_right p (length at.lanes) lawful at text found refl }
