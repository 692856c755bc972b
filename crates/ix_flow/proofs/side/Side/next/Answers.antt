use Rattle.std.proofs.Common.{arith}
use Rattle.ix_flow.proofs.LastSource.{none_same}
use Rattle.ix_flow.proofs.side.Side.next.Goals as goal

pub returns-in-Some-clause-same : goal.returns-in-Some-clause-same
returns-in-Some-clause-same c = λ n low high. none_same _ _ _ n _ _ (omega arith) c.in-Some.ensures.none low high

pub returns-in-None-clause-same : goal.returns-in-None-clause-same
returns-in-None-clause-same c = λ n low high. none_same _ _ _ n _ _ (omega arith) c.in-None.ensures.none low high
