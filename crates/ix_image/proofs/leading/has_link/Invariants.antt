use Rattle.std.{proofs.Common.{◌≡◌, length}, specs.List.list_any}
use Rattle.ix_image.specs.{Fitting.same_link, Meant.links_in}
use Rattle.ix_image.proofs.leading.has_link.Given as goal

abbrev pub invariant-links : goal.invariant-links
invariant-links l = list_any (same_link (l.name, l.object)) (links_in l.rest) ≡ list_any (same_link (l.name, l.object)) (links_in l.links)

abbrev pub decreases-links : goal.decreases-links
decreases-links l = length (links_in l.rest)
