use Rattle.std.proofs.Common.{arith, inl}
use Rattle.ix_model.proofs.path.Path.len.Goals as goal

pub count-requires-clause-fits : goal.count-requires-clause-fits
count-requires-clause-fits c = inl (omega (arith, c.names.ensures.few))
