use Rattle.std.{proofs.Common.{◌≡◌, length}, specs.List.list_all}
use Rattle.ix_image.specs.{Fitting.{leads, links_lead}, Meant.{links_in, node_of, tree_made}}
use Rattle.ix_image.proofs.leading.all_lead.Given as goal

abbrev pub invariant-links : goal.invariant-links
invariant-links l = list_all (leads (tree_made l.fss l.nodes) (node_of l.node)) (links_in l.rest) ≡ links_lead (tree_made l.fss l.nodes) (node_of l.node)

abbrev pub decreases-links : goal.decreases-links
decreases-links l = length (links_in l.rest)
