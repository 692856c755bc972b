use Rattle.std.proofs.Common.{◌≡◌, ◌≤◌, ◌+◌, vec_len, vec_capacity}
use Rattle.ix_kernel.proofs.kernel.Kernel.new.Given as goal

abbrev pub invariant-loop-seat : goal.invariant-loop-seat
invariant-loop-seat l =
    (goal.iterator-loop-seat).can_next l.seat-iterator × (goal.iterator-loop-seat).is_finite l.seat-iterator
    × (l.all.items ≡ l.yielded) × (vec_len l.all + l.seat-iterator.rest.len ≤ vec_capacity l.all)
