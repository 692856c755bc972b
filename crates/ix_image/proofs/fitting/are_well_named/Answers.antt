use Rattle.std.{proofs.Common.{◌+◌, ◌&&◌, drop, sym, ap, ◌∙◌, arith}, specs.List.list_all}
use Rattle.ix_image.{specs.{Fitting.is_well_named, Meant.{node_of, nodes_of}}, proofs.{Counted.is_named_well, Placing.got_node, Roots.nodes_all}}
use Rattle.ix_image.proofs.fitting.are_well_named.Goals as goal

pub returns-then-not-is_well_named : goal.returns-then-not-is_well_named
returns-then-not-is_well_named c =
    sym (sym c.loop-i.invariant ∙ nodes_all (is_well_named (nodes_of c.args.nodes.now)) c.args.nodes.now c.loop-i.i c.index-nodes-i.result (omega arith) c.index-nodes-i.is
    ∙ ap (λ b. b && list_all (is_well_named (nodes_of c.args.nodes.now)) (nodes_of (drop (c.loop-i.i + 1) c.args.nodes.now)))
    (sym (is_named_well (nodes_of c.args.nodes.now) c.args.counts.now c.args.marks.now c.loop-i.i (node_of c.index-nodes-i.result) c.requires.counts
    c.requires.marks (got_node c.args.nodes.now c.loop-i.i c.index-nodes-i.result (omega arith) c.index-nodes-i.is)) ∙ sym c.is_well_named.ensures
    ∙ c.if-not-is_well_named.true))

pub loop-i-preserved : goal.loop-i-preserved
loop-i-preserved c =
    sym (sym c.loop-i.invariant ∙ nodes_all (is_well_named (nodes_of c.args.nodes.now)) c.args.nodes.now c.loop-i.i c.index-nodes-i.result (omega arith) c.index-nodes-i.is
    ∙ ap (λ b. b && list_all (is_well_named (nodes_of c.args.nodes.now)) (nodes_of (drop (c.loop-i.i + 1) c.args.nodes.now)))
    (sym (is_named_well (nodes_of c.args.nodes.now) c.args.counts.now c.args.marks.now c.loop-i.i (node_of c.index-nodes-i.result) c.requires.counts
    c.requires.marks (got_node c.args.nodes.now c.loop-i.i c.index-nodes-i.result (omega arith) c.index-nodes-i.is)) ∙ sym c.is_well_named.ensures
    ∙ c.if-not-is_well_named.false))
