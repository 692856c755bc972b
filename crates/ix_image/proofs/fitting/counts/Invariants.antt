use Rattle.std.proofs.Common.{take}
use Rattle.ix_image.specs.Meant.{AreCounts, nodes_of}
use Rattle.ix_image.proofs.fitting.counts.Given as goal

abbrev pub invariant-loop-node : goal.invariant-loop-node
invariant-loop-node l = AreCounts (nodes_of l.nodes) (take l.node-index (nodes_of l.nodes)) l.counts.items
