use Rattle.std.proofs.Common.{ℕ}
use Rattle.ix_asking.proofs.Lines.{calls-done}
use Rattle.ix_asking.proofs.laws.lines_that_are_done.Goals as goal

pub returns : goal.returns
returns c = calls-done ℕ
