use Rattle.std.proofs.Common.{arith}
use Rattle.ix_numbers.proofs.Heap.{few}
use Rattle.ix_numbers.proofs.numbers.Numbers.free.Goals as goal

pub overflow_cast-result : goal.overflow_cast-result
overflow_cast-result c = omega (arith, c.len.ensures, few _ _ _ _ c.self.invariant)
