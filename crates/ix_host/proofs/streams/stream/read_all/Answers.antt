use Rattle.std.proofs.Common.{arith}
use Rattle.ix_host.proofs.piecewise.Fronts.{if_some_along, too_long}
use Rattle.ix_host.proofs.streams.stream.read_all.Goals as goal

pub returns-clause-told : goal.returns-clause-told
returns-clause-told g c = if_some_along _ _ _ (λ all front. too_long c.args.max all _ _ front (omega (arith, c.pieces.bytes.ok))) c.pieces.invariant.told
