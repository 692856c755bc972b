use Rattle.std.proofs.Common.{◌-◌, length}
use Rattle.ix_image.{specs.Meant.nodes_of, proofs.Searching.Searched}
use Rattle.ix_image.proofs.reaching.reached.Given as goal

abbrev pub invariant-found : goal.invariant-found
invariant-found l = Searched (nodes_of l.nodes) l.found.marks.items l.found.places.items l.at

abbrev pub decreases-found : goal.decreases-found
decreases-found l = length l.nodes - l.at
