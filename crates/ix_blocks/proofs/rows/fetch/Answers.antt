use Rattle.std.proofs.Common.{◌≡◌, ◌+◌, ◌-◌, ◌≤◌, ◌/◌, ◌%◌, ◌++◌, length, take, drop, get_or, Some, sym, ap, ◌∙◌, arith, slice_get, length-drop, min, []}
use Rattle.ix_links.specs.Chains.{chain_of}
use Rattle.ix_blocks.{specs.Stored.flat, proofs.Storing.{few_bytes, block_there, block_below, filled_step, length-filled, fetched_step, next_block}}
use Rattle.ix_blocks.proofs.rows.fetch.Goals as goal

pub overflow_add-start : goal.overflow_add-start
overflow_add-start c = omega (arith, few_bytes c.args.links.now c.args.blocks.now c.requires.rows c.args.file c.requires.file, c.requires.within, c.loop-done-test.true, c.loop-done.auto.out)

pub bounds-blocks-here : goal.bounds-blocks-here
bounds-blocks-here c = block_below _ _ c.requires.rows _ c.requires.file _ _ (sym (c.loop-done.invariant.next c.loop-done-test.true) ∙ c.in-Some.is)

pub unreachable-requires : goal.unreachable-requires
unreachable-requires c = block_there _ _ c.requires.rows _ c.requires.file _
    (omega (arith, c.requires.within, c.loop-done-test.true, c.loop-done.auto.out)) (sym (c.loop-done.invariant.next c.loop-done-test.true) ∙ c.in-None.is)

pub loop-done-preserved : goal.loop-done-preserved
loop-done-preserved c =
    let v = c.args.links.now in
    let f = c.args.file in
    let bs = c.args.blocks.now in
    let ws = drop c.args.place (flat bs (chain_of f v)) in
    let place = c.args.place in
    let done = c.loop-done.done in
    let size = c.min-size.result in
    let b = c.in-Some.here in
    let start = (place + done) % 512 in
    let at : slice_get (chain_of f v) ((place + done) / 512) ≡ Some b = sym (c.loop-done.invariant.next c.loop-done-test.true) ∙ c.in-Some.is in
    let less : done + size ≤ length c.args.out.now = omega (arith, c.min-size.ensures, c.loop-done-test.true, c.loop-done.auto.out) in
    let fits : start + size ≤ 512 = omega (arith, c.min-size.ensures) in
    let there : done + size ≤ length ws = omega (arith, less, c.requires.within, length-drop place (flat bs (chain_of f v))) in
    let piece : c.copy_from_slice.new.self ≡ take size (drop start (get_or bs b [])) = c.copy_from_slice.ensures.after
    ∙ ap (λ n. take n (drop start (get_or bs b []))) (omega arith) in
    let copied = filled_step c.loop-done.out c.args.out.now ws c.copy_from_slice.new.self done size (done + size - done) c.loop-done.invariant.copied
    (omega arith) there (ap (λ xs. take done ws ++ xs) piece ∙ fetched_step v bs c.requires.rows f c.requires.file place done size b at fits) in
    let long = ap length copied ∙ length-filled (done + size) ws c.args.out.now there less in
    record {
      copied = copied;
      next = λ more. c.next-block.ensures.chain f ((place + done) / 512) at
          ∙ ap (slice_get (chain_of f v)) (sym (next_block place done size (length _) (c.min-size.ensures
          ∙ ap (λ n. min (512 - start) (n - done)) c.loop-done.auto.out) (omega (arith, more, long))));
      some = omega (arith, less, long);
    }
