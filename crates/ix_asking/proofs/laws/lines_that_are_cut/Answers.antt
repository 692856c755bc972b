use Rattle.std.proofs.Common.{ℕ}
use Rattle.ix_asking.proofs.Lines.{calls-cut}
use Rattle.ix_asking.proofs.laws.lines_that_are_cut.Goals as goal

pub returns : goal.returns
returns c = calls-cut ℕ
