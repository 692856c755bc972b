use Rattle.std.proofs.Common.{arith}
use Rattle.ix_gate.proofs.Joining.{same_numbers}
use Rattle.ix_layer_tests.proofs.kernels.call_all.Goals as goal

pub returns-clause-numbers : goal.returns-clause-numbers
returns-clause-numbers g c = same_numbers c.args.seats.now c.for_each_mut.new.s (omega arith) (λ i d below. let k = (c.for_each_mut.ensures i d below).1 in grind arith)
