use Rattle.std.proofs.Common.{ap, arith}
use Rattle.ix_model.specs.history.History.{world_of}
use Rattle.ix_image.specs.{Saving.pieces_left, Written.pieces_of}
use Rattle.ix_image.proofs.written.Saving.piece.Goals as goal

pub returns-in-End-clause-text : goal.returns-in-End-clause-text
unfolding pieces_of
returns-in-End-clause-text c =
    absurd (omega (arith, c.requires.going, ap (λ p. pieces_left c.args.self.now.fss.now (world_of c.args.self.now.core.now) p) c.in-End.is))
