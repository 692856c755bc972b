use Rattle.std.{proofs.Common.{◌≡◌, drop}, specs.List.list_all}
use Rattle.ix_image.specs.{Fitting.links_differ, Meant.nodes_of}
use Rattle.ix_image.proofs.fitting.all_differ.Given as goal

abbrev pub invariant-loop-node : goal.invariant-loop-node
invariant-loop-node l = list_all links_differ (nodes_of (drop l.node-index l.nodes)) ≡ list_all links_differ (nodes_of l.nodes)
