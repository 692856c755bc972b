use Rattle.std.proofs.Common.{sym, ◌∙◌}
use Rattle.ix_model.proofs.texts.Pieces.{slash_at, slash_none}
use Rattle.ix_model.proofs.path.first_piece.Goals as goal

pub returns-in-Some-clause-pieces : goal.returns-in-Some-clause-pieces
returns-in-Some-clause-pieces c = rw c.split_at.ensures.back (slash_at c.args.text.now c.in-Some.k (sym c.first_slash.ensures.place ∙ c.in-Some.is))

pub returns-in-None-clause-pieces : goal.returns-in-None-clause-pieces
returns-in-None-clause-pieces c = slash_none c.args.text.now (sym c.first_slash.ensures.place ∙ c.in-None.is)
