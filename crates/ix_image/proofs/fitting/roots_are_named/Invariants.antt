use Rattle.std.{proofs.Common.{◌≡◌, ◌≤◌, ◌+◌, ◌*◌, drop}, specs.List.{list_all, list_any}}
use Rattle.ix_model.specs.opening.Opening.{mounts}
use Rattle.ix_image.specs.{Trees.further_roots, Fitting.same_link, Meant.links_in}
use Rattle.ix_image.proofs.fitting.roots_are_named.Given as goal

abbrev pub invariant-roots : goal.invariant-roots
invariant-roots l = record {
  so_far : list_all (λ root. list_any (same_link root) (links_in l.links)) (mounts l.root (drop l.fs-index l.further))
      ≡ list_all (λ root. list_any (same_link root) (links_in l.links)) (further_roots l.fss);
  few : l.root ≤ 65536 * (l.fs-index + 1);
}
