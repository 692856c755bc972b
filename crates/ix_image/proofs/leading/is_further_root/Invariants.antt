use Rattle.std.{proofs.Common.{◌≡◌, ◌≤◌, ◌+◌, ◌*◌, drop}, specs.List.list_any}
use Rattle.ix_model.specs.opening.Opening.{mounts}
use Rattle.ix_image.specs.{Trees.further_roots, Fitting.same_link, Meant.link_of}
use Rattle.ix_image.proofs.leading.is_further_root.Given as goal

abbrev pub invariant-roots : goal.invariant-roots
invariant-roots l = record {
  so_far : list_any (λ root. same_link root (link_of l.link)) (mounts l.root (drop l.fs-index l.further)) ≡ list_any (λ root. same_link root (link_of l.link)) (further_roots l.fss);
  few : l.root ≤ 65536 * (l.fs-index + 1);
}
