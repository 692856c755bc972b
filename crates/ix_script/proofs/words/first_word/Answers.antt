use Rattle.std.proofs.{Common.{◌≡◌, ◌∷◌, ◌+◌, [], take, sym, ap, ◌∙◌}, lemmas.List.{take_all, take_rest}}
use Rattle.ix_script.specs.{reader.Cut.end_from, texts.Cutting.pieces}
use Rattle.ix_script.proofs.{texts.Pieces.{cut_within, cut_whole, ends_within, plain_end}, words.first_word.Goals.{then-quoted, else-quoted}}
use Rattle.ix_script.specs.declared.words.Spot.TheVariants as spot
use Rattle.ix_script.proofs.words.first_word.Goals as goal

pub slice_bounds-word-end : goal.slice_bounds-word-end
slice_bounds-word-end c =
    let text = c.args.text.now in
    ends_within _ _ (elim c.if-quoted.branch [
      | then-quoted w ↦ w.end-is ∙ w.end_of_quoted-end.ensures
      | else-quoted w ↦ w.end-is ∙ w.end_of_plain-end.ensures ∙ sym (plain_end text (sym c.begins-quoted.ensures ∙ w.if-quoted.false))
    ])

pub returns-then-end-text-clause-pieces : goal.returns-then-end-text-clause-pieces
returns-then-end-text-clause-pieces c =
    let text = c.args.text.now in
    let end = c.if-quoted.end in
    let is : end ≡ end_from spot.Front text = elim c.if-quoted.branch [
      | then-quoted w ↦ w.end-is ∙ w.end_of_quoted-end.ensures
      | else-quoted w ↦ w.end-is ∙ w.end_of_plain-end.ensures ∙ sym (plain_end text (sym c.begins-quoted.ensures ∙ w.if-quoted.false))
    ] in
    cut_within _ _ _ is c.if-end-text.true ∙ ap (λ more. take end text ∷ pieces spot.Front more) (sym (take_rest text (end + 1)))

pub returns-else-end-text-clause-pieces : goal.returns-else-end-text-clause-pieces
returns-else-end-text-clause-pieces c =
    let text = c.args.text.now in
    let end = c.if-quoted.end in
    let is : end ≡ end_from spot.Front text = elim c.if-quoted.branch [
      | then-quoted w ↦ w.end-is ∙ w.end_of_quoted-end.ensures
      | else-quoted w ↦ w.end-is ∙ w.end_of_plain-end.ensures ∙ sym (plain_end text (sym c.begins-quoted.ensures ∙ w.if-quoted.false))
    ] in
    cut_whole _ _ _ is c.if-end-text.false ∙ ap (λ word. word ∷ []) (sym (take_all end text c.if-end-text.false))
