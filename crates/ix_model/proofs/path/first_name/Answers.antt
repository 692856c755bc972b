use Rattle.std.proofs.Common.{ap, ◌∙◌, ◌∷◌, [], sym}
use Rattle.ix_model.{specs.world.Texts.names_in, proofs.texts.Joining.{cut_at, cut_last}}
use Rattle.ix_model.proofs.path.first_name.Goals as goal

pub of-requires : goal.of-requires
of-requires c = (cut_at c.args.text.now _ _ c.in-Some.more c.requires.some c.requires.names c.first_piece.ensures.pieces c.in-Some.is).is_named

pub of-requires-in-None : goal.of-requires-in-None
of-requires-in-None c = (cut_last c.args.text.now _ _ c.requires.some c.requires.names c.first_piece.ensures.pieces c.in-None.is).is_named

pub returns-in-Some-clause-names : goal.returns-in-Some-clause-names
returns-in-Some-clause-names c =
    (cut_at c.args.text.now _ _ c.in-Some.more c.requires.some c.requires.names c.first_piece.ensures.pieces c.in-Some.is).names
    ∙ ap (λ n. n ∷ names_in c.in-Some.more.now) (sym c.of.ensures)

pub returns-in-Some-clause-text : goal.returns-in-Some-clause-text
returns-in-Some-clause-text c = (cut_at c.args.text.now _ _ c.in-Some.more c.requires.some c.requires.names c.first_piece.ensures.pieces c.in-Some.is).rest

pub returns-in-None-clause-names : goal.returns-in-None-clause-names
returns-in-None-clause-names c =
    (cut_last c.args.text.now _ _ c.requires.some c.requires.names c.first_piece.ensures.pieces c.in-None.is).names
    ∙ ap (λ n. n ∷ []) (sym c.of-in-None.ensures)

pub returns-in-None-clause-text : goal.returns-in-None-clause-text
returns-in-None-clause-text c = (cut_last c.args.text.now _ _ c.requires.some c.requires.names c.first_piece.ensures.pieces c.in-None.is).rest
