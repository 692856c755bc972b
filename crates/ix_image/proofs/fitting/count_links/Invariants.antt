use Rattle.std.{proofs.Common.{◌≡◌, ℕ, ◌+◌, ◌==◌, min, length, count_by, Some}, specs.Prelude.{slice_get, slice_index}}
use Rattle.ix_image.specs.{Trees.NodeOf, Meant.{links_in, nodes_of}}
use Rattle.ix_image.proofs.fitting.count_links.Given as goal

abbrev pub invariant-links : goal.invariant-links
invariant-links l = record {
  long : length l.counts ≡ length l.nodes;
  each : (i : ℕ) (x : NodeOf) → slice_get (nodes_of l.nodes) i ≡ Some x
      → min (slice_index l.counts i + count_by (λ k. k.1 == x.number) (links_in l.rest)) 2 ≡ min (slice_index l.fn.counts i + count_by (λ k. k.1 == x.number) (links_in l.links)) 2;
}

abbrev pub decreases-links : goal.decreases-links
decreases-links l = length (links_in l.rest)
