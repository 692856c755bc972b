use Rattle.std.{proofs.Common.{◌≡◌, drop}, specs.List.list_all}
use Rattle.ix_image.specs.{Fitting.is_well_named, Meant.nodes_of}
use Rattle.ix_image.proofs.fitting.are_well_named.Given as goal

abbrev pub invariant-loop-i : goal.invariant-loop-i
invariant-loop-i l = list_all (is_well_named (nodes_of l.nodes)) (nodes_of (drop l.i l.nodes)) ≡ list_all (is_well_named (nodes_of l.nodes)) (nodes_of l.nodes)
