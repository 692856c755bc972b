use Rattle.std.{proofs.Common.{◌≡◌, ◌≤◌, ◌*◌, drop}, specs.List.list_all}
use Rattle.ix_model.specs.opening.Opening.{mounts}
use Rattle.ix_image.specs.{Fitting.has_directory, Meant.nodes_of}
use Rattle.ix_image.proofs.fitting.roots_are_there.Given as goal

abbrev pub invariant-roots : goal.invariant-roots
invariant-roots l = record {
  so_far : list_all (λ root. has_directory (nodes_of l.nodes) root.1) (mounts l.root (drop l.fs-index l.fss)) ≡ list_all (λ root. has_directory (nodes_of l.nodes) root.1) (mounts 0 l.fss);
  few : l.root ≤ 65536 * l.fs-index;
}
