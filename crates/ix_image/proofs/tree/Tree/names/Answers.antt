use Rattle.std.proofs.Common.{List, length, sym, ap, subst, ◌∙◌, arith}
use Rattle.ix_image.{specs.{Trees.LinkOf, Image.IsTree, Meant.tree_made}, proofs.Amounts.names_step}
use Rattle.ix_image.proofs.tree.Tree.names.Goals as goal

pub overflow_add-all : goal.overflow_add-all
overflow_add-all c =
    omega (
      arith,
      (names_step c.self.inside.fss.items c.deref-node-items.result.now c.loop-node.node-index c.loop-node.all c.len.result c.node-item.result
          (subst (λ nodes. IsTree (tree_made c.self.inside.fss.items nodes)) (sym c.deref-node-items.ensures.value) c.self.invariant.tree) c.loop-node-test.true
          c.node-item.is
          (c.len.ensures ∙ ap (λ (r : List LinkOf). length r) c.links.ensures) c.loop-node.invariant.is c.loop-node.invariant.few).2,
    )

pub loop-node-preserved : goal.loop-node-preserved
loop-node-preserved c =
    let step = names_step c.self.inside.fss.items _ _ _ _ _ (subst (λ nodes. IsTree (tree_made c.self.inside.fss.items nodes))
    (sym c.deref-node-items.ensures.value) c.self.invariant.tree) c.loop-node-test.true c.node-item.is
    (c.len.ensures ∙ ap (λ r. length r) c.links.ensures) c.loop-node.invariant.is c.loop-node.invariant.few in
    record { is = step.0; few = step.1; same = c.loop-node.invariant.same }
