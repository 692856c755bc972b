use Rattle.std.{proofs.{Common.{◌+◌, ◌-◌, ◌&&◌, length, sym, ap, ◌∙◌, arith}, lemmas.{Bool.{le-leb, lt-leb}, List.length-map}}, specs.List.{list_all, range_with_len}}
use Rattle.ix_model.specs.{rows.Telling.blocks_for, declared.config.FsSpec.FsSpec}
use Rattle.ix_image.{specs.Meant.{node_of, tree_made}, proofs.{Amounts.few_objects, Blocks.{fits, home_few, sum_few, one_more, range_on, fits_here}}}
use Rattle.ix_image.proofs.fitting.blocks_fit.Goals as goal

pub offset_bounds-taken-home : goal.offset_bounds-taken-home
offset_bounds-taken-home c =
    omega (arith, home_few _ _ c.requires _ _ c.loop-node-test.true c.node-item.is _ c.home.ensures)

pub bounds-taken-home : goal.bounds-taken-home
bounds-taken-home c = home_few _ _ c.requires _ _ c.loop-node-test.true c.node-item.is _ c.home.ensures

pub overflow_add-taken : goal.overflow_add-taken
overflow_add-taken c =
    omega (
      arith,
      sum_few c.args.fss.now c.args.nodes.now c.requires c.loop-node.node-index c.node-item.result c.loop-node-test.true c.node-item.is c.loop-node.taken c.home.result c.blocks_for.result
          (c.blocks_for.ensures ∙ ap (λ n. blocks_for n) c.size.ensures) (omega (arith, few_objects _ c.requires, length-map c.args.nodes.now node_of)) c.loop-node.invariant,
    )

pub bounds-taken-home-in-loop-node : goal.bounds-taken-home-in-loop-node
bounds-taken-home-in-loop-node c = home_few _ _ c.requires _ _ c.loop-node-test.true c.node-item.is _ c.home.ensures

pub loop-node-preserved : goal.loop-node-preserved
loop-node-preserved c = one_more _ _ c.requires _ _ c.loop-node-test.true c.node-item.is _ _
    _
    c.home.ensures (c.blocks_for.ensures ∙ ap (λ n. blocks_for n) c.size.ensures) c.loop-node.invariant

pub returns-then-taken-k : goal.returns-then-taken-k
returns-then-taken-k c =
    let t = tree_made c.args.fss.now c.args.nodes.now in
    sym (sym c.loop-k.invariant.so_far ∙ range_on _ _ _ c.loop-k-test.true
    ∙ ap (λ b. b && list_all (fits t) (range_with_len (c.loop-k.k + 1) (length c.args.fss.now - (c.loop-k.k + 1)))) (fits_here _ _ _ _ _ c.requires c.loop-k.invariant.taken c.loop-k-test.true
    c.index-fss-k.is ∙ lt-leb _ _ (omega (arith, c.if-taken-k.true, ap (λ (s : FsSpec). s.blocks) c.index-fss-k.is))))

pub loop-k-preserved : goal.loop-k-preserved
loop-k-preserved c =
    let t = tree_made c.args.fss.now c.args.nodes.now in
    record {
      taken = c.loop-k.invariant.taken;
      so_far = sym (sym c.loop-k.invariant.so_far ∙ range_on _ _ _ c.loop-k-test.true
          ∙ ap (λ b. b && list_all (fits t) (range_with_len (c.loop-k.k + 1) (length c.args.fss.now - (c.loop-k.k + 1)))) (fits_here _ _ _ _ _ c.requires c.loop-k.invariant.taken c.loop-k-test.true
          c.index-fss-k.is ∙ le-leb _ _ (omega (arith, c.if-taken-k.false, ap (λ (s : FsSpec). s.blocks) c.index-fss-k.is))));
    }
