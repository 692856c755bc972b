use Rattle.std.{proofs.{Common.{◌≡◌, ◌+◌, length, min, sym, ap, subst, ◌∙◌, arith}, lemmas.List.{take_at, length-map}}, specs.Prelude.slice_index}
use Rattle.ix_image.{specs.Meant.{AreCounts, node_of}, proofs.{Amounts.node_at, Counted.{given, all_counted}}}
use Rattle.ix_image.proofs.fitting.counts.Goals as goal

pub loop-node-preserved : goal.loop-node-preserved
loop-node-preserved c =
    let kept : length c.count_links.new.counts ≡ length c.loop-node.counts.items = c.count_links.auto.counts ∙ ap (λ r. length r) c.deref_mut.ensures.value in
    subst (AreCounts _ _) (sym (take_at _ _ c.loop-node.counts.len (kept ∙ sym c.loop-node.counts.ok.0)))
    (all_counted _ _ _ _ _ (omega (arith, length-map c.args.nodes.now node_of))
    (node_at _ _ _ c.loop-node-test.true c.node-item.is) kept
    (λ i x at. c.count_links.ensures i x at ∙ (λ j. min (slice_index (c.deref_mut.ensures.value j) i + given x.number (c.links.ensures j)) 2))
    c.loop-node.invariant)
