-- Words are cut as they were joined.
use Rattle.std.proofs.{Common.{◌≡◌, ℕ, false, not, ◌==◌, List, [], ◌∷◌, ◌++◌, drop, inl, inr, refl, sym, ap, ◌∙◌}, lemmas.{Bool.{cases_Bool, eqb-true, false≢true}, List.append-nil}}
use Rattle.ix_model.specs.world.Texts.{with_front}
use Rattle.ix_script.{specs.{texts.Cutting.{after_byte, is_quoted, parts_words, pieces, words_of}, declared.words.Spot.Spot}, proofs.back.OneSpelling.joined_front}
use Rattle.ix_text.{specs.{Bytes.is_empty, Spellings.{further, joined}}, proofs.Tests.both}
use Rattle.ix_script.specs.declared.words.Spot.TheVariants as spot

pub some_piece : (at : Spot) (text : List ℕ) → (x : List ℕ) × (xs : List (List ℕ)) × (pieces at text ≡ x ∷ xs)
unfolding pieces
some_piece at [] = ([], [], refl)
some_piece at (b ∷ text) = elim (cases_Bool (parts_words at b)) [
  | inl e ↦ ([], pieces spot.Front text, rw e refl)
  | inr e ↦ let k = some_piece (after_byte at b) text in (b ∷ k.0, k.1, rw (e, k.2) refl)
]

pub pieces_joined : (at : Spot) (text : List ℕ) → joined 32 (pieces at text) ≡ text
unfolding pieces
pieces_joined at [] = refl
pieces_joined at (b ∷ text) = elim (cases_Bool _) [
  | inl e ↦
      let k = some_piece spot.Front text in
      let space = both (b == 32) (not (is_quoted at)) e in
      rw (e, k.2) (ap (λ c. c ∷ joined 32 (k.0 ∷ k.1)) (sym (eqb-true b 32 space.0)) ∙ ap (λ t. b ∷ t) (ap (joined 32) (sym k.2) ∙ pieces_joined spot.Front text))
  | inr e ↦ rw e (joined_front 32 b (pieces (after_byte at b) text) ∙ ap (λ t. b ∷ t) (pieces_joined (after_byte at b) text))
]

-- the words of a text, joined again
pub words_joined : (text : List ℕ) → joined 32 (words_of text) ≡ text
unfolding words_of
words_joined [] = refl
words_joined (b ∷ text) = pieces_joined _ _

pub words_some : (text : List ℕ) → is_empty text ≡ false → words_of text ≡ pieces spot.Front text
unfolding words_of
words_some [] h = absurd (false≢true (sym h))
words_some (b ∷ text) h = refl

-- ---- another last word
-- what follows a word and a space may be another text
record Off (at : Spot) (word rest : List ℕ) (others : List (List ℕ)) : Type 0 where
  others_are : pieces spot.Front rest ≡ others
  others_may_be : (new : List ℕ) → pieces at (word ++ 32 ∷ new) ≡ word ∷ pieces spot.Front new

not_empty : (b : ℕ) (at : Spot) (text : List ℕ) (others : List (List ℕ)) → with_front b (pieces at text) ≡ [] ∷ others → ⊥
not_empty b at text others h =
    let k = some_piece at _ in
    let e = ap (with_front b) (sym k.2) ∙ h in
    cc

without_front : (b : ℕ) (at : Spot) (text word : List ℕ) (others : List (List ℕ)) → with_front b (pieces at text) ≡ (b ∷ word) ∷ others → pieces at text ≡ word ∷ others
without_front b at text word others h =
    let k = some_piece at _ in
    let e = ap (with_front b) (sym k.2) ∙ h in
    let same : k.0 ∷ k.1 ≡ word ∷ others = cc in
    k.2 ∙ same

word_off : (at : Spot) (word rest : List ℕ) (others : List (List ℕ)) → pieces at (word ++ 32 ∷ rest) ≡ word ∷ others → Off at word rest others
unfolding pieces
word_off at [] rest others h = elim (cases_Bool (not (is_quoted at))) [
  | inl e ↦ record { others_are = ap (drop 1) (rw e at h); others_may_be = λ new. rw e refl }
  | inr e ↦ absurd (not_empty 32 (after_byte at 32) rest _ (rw e at h))
]
word_off at (b ∷ word) rest others h = elim (cases_Bool (parts_words at b)) [
  | inl e ↦ let k : [] ∷ pieces spot.Front (word ++ 32 ∷ rest) ≡ (b ∷ word) ∷ others = rw e at h in cc
  | inr e ↦
      let k = word_off (after_byte at b) word _ _ (without_front b (after_byte at b) (word ++ 32 ∷ rest) _ _ (rw e at h)) in
      record { others_are = k.others_are; others_may_be = λ new. rw (e, k.others_may_be) refl }
]

further_last : (byte : ℕ) (front : List (List ℕ)) (last : List ℕ) → further byte (front ++ last ∷ []) ≡ byte ∷ joined byte (front ++ last ∷ [])
further_last byte [] last = refl
further_last byte (word ∷ front) last = refl

pub cut_again : (front : List (List ℕ)) (p q : List ℕ) → pieces spot.Front (joined 32 (front ++ p ∷ [])) ≡ front ++ p ∷ [] → pieces spot.Front q ≡ q ∷ []
    → pieces spot.Front (joined 32 (front ++ q ∷ [])) ≡ front ++ q ∷ []
cut_again [] p q h last = rw (append-nil) last
cut_again (word ∷ front) p q h last =
    let k = word_off _ _ _ _ (ap (λ t. pieces spot.Front (word ++ t)) (sym (further_last 32 _ p)) ∙ h) in
    let rest = cut_again front p q k.others_are last in
    ap (λ t. pieces spot.Front (word ++ t)) (further_last 32 _ q) ∙ k.others_may_be _ ∙ ap (λ ws. word ∷ ws) rest
