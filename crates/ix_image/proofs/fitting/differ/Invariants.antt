use Rattle.std.proofs.Common.{◌≡◌, ◌++◌, length, map}
use Rattle.ix_image.{specs.Meant.links_in, proofs.Distinct.RisingTo}
use Rattle.ix_image.proofs.fitting.differ.Given as goal

abbrev pub invariant-links : goal.invariant-links
invariant-links l = map (λ x. x.now) l.names.items ++ map (λ k. k.0) (links_in l.rest) ≡ map (λ k. k.0) (links_in l.links)

abbrev pub decreases-links : goal.decreases-links
decreases-links l = length (links_in l.rest)

abbrev pub invariant-loop-i : goal.invariant-loop-i
invariant-loop-i l = RisingTo l.i (map (λ x. x.now) l.names.items)
