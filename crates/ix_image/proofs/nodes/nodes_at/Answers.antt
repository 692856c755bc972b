use Rattle.std.proofs.{Common.{◌≡◌, ◌-◌, ◌+◌, sym, subst, arith}, lemmas.Result.err_from_is_err_and}
use Rattle.ix_image.{specs.{Reading.nodes_at, Meant.nodes_of}, proofs.{Looping.with_front, Reread.{nodes_go_on, nodes_end, all_nodes}}}
use Rattle.ix_image.proofs.nodes.nodes_at.Goals as goal

pub returns-in_err-node : goal.returns-in_err-node
returns-in_err-node c =
    let p = err_from_is_err_and c.from_residual.result c.from_residual.ensures.1 in
    rw (p.1, p.2) (nodes_end c.args.fss.now c.loop.nodes.items c.args.count c.loop.counter c.loop.least c.loop.rest.now c.in_err-node.field-0.0
    (nodes_at c.args.fss.now 0 c.args.count c.args.bytes.now) (omega arith) c.in_err-node.ensures.read c.loop.invariant.so_far)

pub loop-preserved : goal.loop-preserved
loop-preserved c = record {
  so_far = subst (λ nodes. with_front (nodes_of nodes) (nodes_at c.args.fss.now (c.in_ok-node.node.number + 1) (c.args.count - (c.loop.counter + 1)) c.in_ok-node.after.now)
      ≡ nodes_at c.args.fss.now 0 c.args.count c.args.bytes.now) (sym c.in_ok-push.ensures.ok)
      (nodes_go_on _ _ _ _ _ _ _ _
      (nodes_at c.args.fss.now 0 c.args.count c.args.bytes.now) (omega arith) c.in_ok-node.ensures.read c.loop.invariant.so_far);
  small = omega (arith, c.in_ok-node.ensures.small);
}

pub returns : goal.returns
returns c = all_nodes _ _ _ _ _ _ (nodes_at c.args.fss.now 0 c.args.count c.args.bytes.now) (omega arith)
    c.loop.invariant.so_far
