use Rattle.std.proofs.Common.{◌∙◌, sym, arith}
use Rattle.ix_numbers.proofs.Heap.{popped_lowest, popped_marks, popped_heaped, none_lowest}
use Rattle.ix_numbers.proofs.numbers.Numbers.take.Goals as goal

pub invariant_of-self-2 : goal.invariant_of-self-2
invariant_of-self-2 c = popped_heaped _ _ _ _ c.self.invariant c.in_ok-number.field-0 _ c.in_ok-number.ensures.permutation _ _
    (c.in_ok-number.ensures.heap_order c.self.invariant.ordered).0 c.in_ok-number.ensures.len (omega (arith, c.in_ok-number.ensures.capacity))

pub returns-in_err-number-clause-number : goal.returns-in_err-number-clause-number
returns-in_err-number-clause-number c = c.from_residual.ensures ∙ rw (← c.self.view_is) (sym (none_lowest _ _ _ _ c.self.invariant c.in_err-number.ensures.none))

pub returns-clause-number : goal.returns-clause-number
returns-clause-number c =
    rw (← c.self.view_is) (sym (popped_lowest _ _ _ _ c.self.invariant c.in_ok-number.field-0 _ c.in_ok-number.ensures.permutation
    (c.in_ok-number.ensures.heap_order c.self.invariant.ordered).1))

pub returns-clause-taken : goal.returns-clause-taken
returns-clause-taken c = rw (← c.self.view_is) (popped_marks _ _ _ _ c.self.invariant c.in_ok-number.field-0 _ c.in_ok-number.ensures.permutation)
