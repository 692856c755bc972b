use Rattle.std.{proofs.Common.{◌≡◌, drop}, specs.List.list_all}
use Rattle.ix_image.specs.{Fitting.links_lead, Meant.{nodes_of, tree_made}}
use Rattle.ix_image.proofs.leading.links_lead.Given as goal

abbrev pub invariant-loop-node : goal.invariant-loop-node
invariant-loop-node l = list_all (links_lead (tree_made l.fss l.nodes)) (nodes_of (drop l.node-index l.nodes)) ≡ list_all (links_lead (tree_made l.fss l.nodes)) (nodes_of l.nodes)
