use Rattle.ix_image.proofs.Reread.{LinksSoFar}
use Rattle.ix_image.proofs.links.links_at.Given as goal

abbrev pub invariant-loop : goal.invariant-loop
invariant-loop l = LinksSoFar l.count l.counter l.bytes l.rest
