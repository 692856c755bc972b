use Rattle.std.proofs.{Common.{[], ◌+◌, ◌≤◌, ◌/◌, ◌%◌, length, take, drop, get_or, set, sym, ap, ◌∙◌, arith, slice_get, length-take}, lemmas.List.set-get_or}
use Rattle.ix_links.{specs.Chains.chain_of, proofs.Held.held_below}
use Rattle.ix_blocks.{specs.{Files.laid_over, Stored.flats}, proofs.Storing.{laid_over_none, length-laid_over}}
use Rattle.ix_blocks.proofs.Storing.{rows_set, few_bytes, block_there, block_below, block_sized, laid_step, next_block}
use Rattle.ix_blocks.proofs.rows.lay.Goals as goal

pub loop-done-init : goal.loop-done-init
loop-done-init c =
    record {
      rows = c.requires.rows;
      laid = sym (ap (set _ _) (laid_over_none c.args.place _) ∙ set-get_or _ _ []);
      next = λ _. c.block_at-block.ensures ∙ ap (λ n. slice_get (chain_of c.args.file c.args.links.now) (n / 512)) (omega arith);
      some = omega arith;
    }

pub overflow_add-start : goal.overflow_add-start
overflow_add-start c = omega (arith, few_bytes c.args.links.now c.args.blocks.now c.requires.rows c.args.file c.requires.file, c.requires.within, c.loop-done-test.true)

pub bounds-blocks-here : goal.bounds-blocks-here
bounds-blocks-here c = block_below _ _ c.loop-done.invariant.rows _ c.requires.file _ _ (sym (c.loop-done.invariant.next c.loop-done-test.true) ∙ c.in-Some.is)

pub next-block-requires : goal.next-block-requires
next-block-requires c = held_below _ _ _ _ c.requires.rows.law (sym (c.loop-done.invariant.next c.loop-done-test.true) ∙ c.in-Some.is)

pub unreachable-requires : goal.unreachable-requires
unreachable-requires c = block_there _ _ c.requires.rows _ c.requires.file _
    (omega (arith, c.requires.within, c.loop-done-test.true)) (sym (c.loop-done.invariant.next c.loop-done-test.true) ∙ c.in-None.is)

pub loop-done-preserved : goal.loop-done-preserved
loop-done-preserved c =
    let v = c.args.links.now in
    let f = c.args.file in
    let ds = c.loop-done.blocks in
    let bytes = c.args.bytes.now in
    let done = c.loop-done.done in
    let size = c.min-size.result in
    let b = c.in-Some.here in
    let start = (c.args.place + done) % 512 in
    let rows = c.loop-done.invariant.rows in
    let at = sym (c.loop-done.invariant.next c.loop-done-test.true) ∙ c.in-Some.is in
    let less : done + size ≤ length bytes = omega (arith, c.min-size.ensures, c.loop-done-test.true) in
    let fits : start + size ≤ 512 = omega (arith, c.min-size.ensures) in
    let sized = block_sized v ds rows f c.requires.file _ b at in
    let row = c.lay_in.ensures ∙ ap (λ n. laid_over start (take n (drop done bytes)) (get_or ds b [])) (omega arith) in
    record {
      rows = rows_set v ds rows b c.lay_in.new.row (ap length row ∙ length-laid_over start (take size (drop done bytes)) (get_or ds b []) (omega (
        arith,
        length-take size (drop done bytes),
        fits,
        sized,
      )) ∙ sized);
      laid = ap (λ x. flats (set ds b x) v.chains) row ∙ laid_step v ds rows f c.requires.file _ _ _ _ _ b c.loop-done.invariant.laid c.requires.within less at fits;
      next = λ more. c.next-block.ensures.chain f _ at ∙ ap (slice_get _) (sym (next_block _ _ _ _ c.min-size.ensures more));
      some = less;
    }
