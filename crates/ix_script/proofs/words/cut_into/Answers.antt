use Rattle.std.{proofs.{Common.{◌≡◌, [], ◌∙◌, arith, cond, map, nat_lt, refl, set}, lemmas.{Bool.{lt-ltb, le-ltb}, List.{map-set, nil_from_length}}}, specs.Option.option_map_or}
use Rattle.ix_script.{specs.texts.Cutting.pieces, proofs.{lines.Deciding.none_there, texts.Words.{begin, next, ended, room, no_words, some_words}}}
use Rattle.ix_script.proofs.words.cut_into.Goals.{then-len-eq0, else-len-eq0, then-count-lt8, else-count-lt8}
use Rattle.ix_script.specs.declared.words.Spot.TheVariants as spot
use Rattle.ix_script.proofs.words.cut_into.Goals as goal

pub words-init : goal.words-init
words-init c = begin _ _ _ c.requires (elim c.if-len-eq0.branch [
  | then-len-eq0 w ↦ rw (w.rest-is, nil_from_length c.args.text.now w.if-len-eq0.true) no_words
  | else-len-eq0 w ↦ rw w.rest-is (some_words _ (omega (arith, w.if-len-eq0.false)))
])

pub overflow_add-count : goal.overflow_add-count
overflow_add-count c = omega (
  arith,
  room c.args.text.now _ _ _ _ (option_map_or (λ front. pieces spot.Front front.now) c.words.rest []) c.first_word-open.result.0.now
      (option_map_or (λ front. pieces spot.Front front.now) c.first_word-open.result.1 []) (rw c.in-Some.is c.first_word-open.ensures.pieces) c.words.invariant,
)

pub words-preserved : goal.words-preserved
words-preserved c =
    let words = map (λ s. s.now) c.words.first in
    let kept : map (λ s. s.now) c.if-count-lt8.first ≡ cond (nat_lt c.words.count 8) (set words c.words.count c.first_word-open.result.0.now) words = elim c.if-count-lt8.branch [
      | then-count-lt8 w ↦ rw (w.first-is, lt-ltb c.words.count 8 w.if-count-lt8.true) (map-set (λ s. s.now) c.words.first c.words.count _)
      | else-count-lt8 w ↦ rw (w.first-is, le-ltb c.words.count 8 w.if-count-lt8.false) refl
    ] in
    rw (c.is_empty-has_empty.ensures ∙ none_there _ c.first_word-open.result.0.now refl, c.first_word-open.ensures.open)
    (next _ _ _ _ _ _ _ _ _ (rw c.in-Some.is c.first_word-open.ensures.pieces) kept c.words.invariant)

pub returns : goal.returns
returns c = ended _ _ _ _ _ _ (rw c.in_default.is refl) c.words.invariant
