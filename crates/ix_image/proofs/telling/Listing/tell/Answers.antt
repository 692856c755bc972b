use Rattle.std.proofs.Common.{ap, arith}
use Rattle.ix_image.specs.Telling.{pieces_of, pieces_left}
use Rattle.ix_image.proofs.telling.Listing.tell.Goals as goal

pub returns-in-End-clause-ok : goal.returns-in-End-clause-ok
unfolding pieces_of
returns-in-End-clause-ok c =
    absurd (omega (arith, c.requires, ap (λ n. pieces_left n c.args.self.now.tree.now) c.in-End.is))
