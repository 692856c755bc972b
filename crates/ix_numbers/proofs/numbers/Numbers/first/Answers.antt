use Rattle.std.proofs.Common.{sym, arith}
use Rattle.ix_numbers.proofs.Heap.{top_lowest, none_lowest, none_above}
use Rattle.ix_numbers.proofs.numbers.Numbers.first.Goals as goal

pub returns-in-Some : goal.returns-in-Some
returns-in-Some c = rw (← c.self.view_is)
    (sym (top_lowest _ _ _ _ c.self.invariant c.in-Some.n.now (omega (arith, c.in-Some.ensures.item)) c.in-Some.ensures.lookup
    (c.in-Some.ensures.greatest c.self.invariant.ordered)))

pub returns-in-None : goal.returns-in-None
returns-in-None c = rw (← c.self.view_is) (sym (none_lowest _ _ _ _ c.self.invariant (none_above _ c.in-None.ensures.variant.1)))
