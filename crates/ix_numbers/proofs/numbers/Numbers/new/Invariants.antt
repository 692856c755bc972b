use Rattle.std.{proofs.Common.{◌≡◌, ◌≤◌, true, replicate, heap_items, heap_len}, specs.BinaryHeap.heap_capacity}
use Rattle.ix_numbers.specs.Heaped.{marks_of, AreHeaped}
use Rattle.ix_numbers.proofs.numbers.Numbers.new.Given as goal

-- the numbers so far are free
abbrev pub invariant-loop-n : goal.invariant-loop-n
invariant-loop-n l = record {
  heaped : AreHeaped l.n (heap_items l.free) (heap_len l.free) (heap_capacity l.free);
  all : marks_of l.n (heap_items l.free) ≡ replicate l.n true;
  room : l.fn.limit ≤ heap_capacity l.free;
}
