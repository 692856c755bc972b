use Rattle.ix_numbers.proofs.Heap.{taken_room, pushed_marks, pushed_heaped}
use Rattle.ix_numbers.proofs.numbers.Numbers.give.Goals as goal

pub unreachable-requires : goal.unreachable-requires
unreachable-requires c = let ok = c.in-Err.ensures.succeeds (taken_room _ _ _ _ c.self.invariant c.args.n (rw c.self.view_is c.requires)) in cc

pub invariant_of-self : goal.invariant_of-self
invariant_of-self c = pushed_heaped _ _ _ _ c.self.invariant c.args.n (rw c.self.view_is c.requires) _ c.in-Ok.ensures.permutation _ _
    (c.in-Ok.ensures.heap_order c.self.invariant.ordered) c.in-Ok.ensures.len c.in-Ok.ensures.capacity

pub returns : goal.returns
returns c = rw (← c.self.view_is) (pushed_marks _ _ _ _ c.self.invariant c.args.n (rw c.self.view_is c.requires) _ c.in-Ok.ensures.permutation)
