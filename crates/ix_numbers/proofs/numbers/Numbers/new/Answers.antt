use Rattle.std.proofs.Common.{◌≡◌, ◌∙◌, ◌++◌, ◌∷◌, [], true, arith, refl, ap, subst, ℕ, heap_items, heap_len, List, Bool}
use Rattle.std.{specs.BinaryHeap.heap_capacity, proofs.lemmas.List.replicate_more}
use Rattle.ix_numbers.{specs.Heaped.AreHeaped, proofs.Heap.{none_heaped, more_heaped, more_marks}}
use Rattle.ix_numbers.proofs.numbers.Numbers.new.Goals as goal

pub loop-n-init : goal.loop-n-init
loop-n-init c = record {
  heaped = none_heaped _ _ _ c.in_ok-free.ensures.items c.in_ok-free.ensures.len c.in_ok-free.ensures.heap_order;
  all = refl;
  room = c.in_ok-free.ensures.capacity;
}

pub loop-n-preserved : goal.loop-n-preserved
loop-n-preserved c =
    let so = c.loop-n.invariant in record {
      heaped = more_heaped _ _ _ _ so.heaped _ c.in_ok-push.ensures.permutation _ _ (c.in_ok-push.ensures.heap_order so.heaped.ordered) c.in_ok-push.ensures.len (omega (
        arith,
        so.room,
        c.loop-n-test.true,
        c.in_ok-push.ensures.capacity,
      )) (omega (arith, c.ranges.limit, c.loop-n-test.true));
      all = more_marks _ _ _ _ so.heaped _ c.in_ok-push.ensures.permutation ∙ ap (λ (marks : List Bool). marks ++ true ∷ []) so.all ∙ replicate_more c.loop-n.n true;
      room = omega (arith, so.room, c.in_ok-push.ensures.capacity);
    }

pub invariant_of-result : goal.invariant_of-result
invariant_of-result c =
    let end : c.loop-n.n ≡ c.args.limit = omega (arith, c.loop-n.auto.n-end, c.loop-n-test.false) in
    let P : ℕ → Type 0 = λ n. AreHeaped n (heap_items c.loop-n.free) (heap_len c.loop-n.free) (heap_capacity c.loop-n.free) in
    subst P end c.loop-n.invariant.heaped
