use Rattle.std.{proofs.Common.{◌≡◌, ◌-◌, length}, specs.List.{list_all, range_with_len}}
use Rattle.ix_image.{specs.{Fitting.blocks_fit, Meant.tree_made}, proofs.Blocks.{Taken, fits}}
use Rattle.ix_image.proofs.fitting.blocks_fit.Given as goal

abbrev pub invariant-loop-node : goal.invariant-loop-node
invariant-loop-node l = Taken l.fss l.nodes l.node-index l.taken

abbrev pub invariant-loop-k : goal.invariant-loop-k
invariant-loop-k l = record {
  taken : Taken l.fss l.nodes (length l.nodes) l.taken;
  so_far : list_all (fits (tree_made l.fss l.nodes)) (range_with_len l.k (length l.fss - l.k)) ≡ blocks_fit (tree_made l.fss l.nodes);
}
