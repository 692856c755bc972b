use Rattle.std.proofs.Common.{ℕ}
use Rattle.ix_asking.proofs.Lines.{calls-followed}
use Rattle.ix_asking.proofs.laws.lines_that_follow.Goals as goal

pub returns : goal.returns
returns c = calls-followed ℕ ℕ
