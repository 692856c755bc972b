use Rattle.std.proofs.Common.{length}
use Rattle.ix_image.{specs.Meant.{links_in, nodes_of}, proofs.Searching.FindsSoFar}
use Rattle.ix_image.proofs.reaching.Found.follow.Given as goal

abbrev pub invariant-links : goal.invariant-links
invariant-links l = FindsSoFar (nodes_of l.nodes) (links_in l.links) (links_in l.rest) l.fn.self.marks.items l.fn.self.places.items l.self.marks.items l.self.places.items

abbrev pub decreases-links : goal.decreases-links
decreases-links l = length (links_in l.rest)
