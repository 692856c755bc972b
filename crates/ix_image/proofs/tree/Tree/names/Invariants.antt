use Rattle.std.proofs.Common.{◌≡◌, ◌*◌, ◌≤◌, take}
use Rattle.ix_image.specs.{Lines.names_in, Meant.nodes_of}
use Rattle.ix_image.proofs.tree.Tree.names.Given as goal

abbrev pub invariant-loop-node : goal.invariant-loop-node
invariant-loop-node l = record {
  is : l.all ≡ names_in (take l.node-index (nodes_of l.node-items));
  few : l.all ≤ 65536 * l.node-index;
  same : nodes_of l.node-items ≡ l.self.nodes;
}
