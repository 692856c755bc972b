-- Words cut off one after the other.
use Rattle.std.proofs.Common.{◌≡◌, ◌≢◌, ℕ, zero, suc, ◌+◌, ◌<◌, ◌≤◌, nat_lt, Bool, true, false, ◌||◌, cond, List, [], ◌∷◌, ◌++◌, length, set, replicate, inl}
use Rattle.std.proofs.Common.{inr, refl, sym, ap, ◌∙◌, append_assoc, length-append, arith}
use Rattle.std.{specs.List.list_any, proofs.lemmas.{List.{append-nil, length-set, get_or-set_same, get_or-set_other}, Bool.{cases_eq, ltb-true, ltb-false}}}
use Rattle.ix_model.specs.world.Texts.{with_front}
use Rattle.ix_script.specs.{texts.Cutting.{is_open, word_at, pieces, parts_words, after_byte, words_of}, lines.Rules.{has_empty_word, has_open_quote}}
use Rattle.ix_script.{specs.{declared.words.Spot.Spot, reader.Cut.AreWords}, proofs.reader.Pushed.any_push}
use Rattle.ix_text.specs.Bytes.{is_empty}
use Rattle.ix_script.specs.declared.words.Spot.TheVariants as spot

-- what was cut off, and what is left
pub record Cutting (words kept : List (List ℕ)) (n : ℕ) (some_empty some_open : Bool) (rest : List (List ℕ)) : Type 0 where
  pub done : List (List ℕ)
  pub whole : done ++ rest ≡ words
  pub eight : length kept ≡ 8
  pub first : (i : ℕ) → i < 8 → word_at kept i ≡ word_at done i
  pub count : n ≡ length done
  pub has_empty : some_empty ≡ list_any is_empty done
  pub has_open : some_open ≡ list_any is_open done

pub none_kept : (n i : ℕ) → word_at (replicate n []) i ≡ []
none_kept zero i = refl
none_kept (suc n) zero = refl
none_kept (suc n) (suc i) = none_kept n i

pub no_words : words_of [] ≡ []
unfolding words_of
no_words = refl

pub some_words : (text : List ℕ) → 0 < length text → words_of text ≡ pieces spot.Front text
unfolding words_of
some_words [] some = absurd (omega arith)
some_words (b ∷ text) some = refl

pub begin : (words kept rest : List (List ℕ)) → kept ≡ replicate 8 [] → words ≡ rest → Cutting words kept 0 false false rest
begin words kept rest none h = record {
  done = [];
  whole = sym h;
  eight = ap length none;
  first = λ i low. ap (λ ws. word_at ws i) none ∙ none_kept 8 i;
  count = refl;
  has_empty = refl;
  has_open = refl;
}

-- the word at a place, with a word more
place_pushed : (done : List (List ℕ)) (word : List ℕ) (i : ℕ) → i ≢ length done → word_at (done ++ word ∷ []) i ≡ word_at done i
place_pushed [] word zero ne = absurd (ne refl)
place_pushed [] word (suc i) ne = refl
place_pushed (d ∷ done) word zero ne = refl
place_pushed (d ∷ done) word (suc i) ne = place_pushed done _ i (λ e. ne (ap suc e))

place_new : (done : List (List ℕ)) (word : List ℕ) → word_at (done ++ word ∷ []) (length done) ≡ word
place_new [] word = refl
place_new (d ∷ done) word = place_new done _

kept_next : (kept new done : List (List ℕ)) (n : ℕ) (word : List ℕ) (b : Bool) → nat_lt n 8 ≡ b → n ≡ length done → length kept ≡ 8
    → new ≡ cond b (set kept n word) kept → ((i : ℕ) → i < 8 → word_at kept i ≡ word_at done i)
    → (length new ≡ 8) × ((i : ℕ) → i < 8 → word_at new i ≡ word_at (done ++ word ∷ []) i)
kept_next kept new done n word true small is long k h = (
  ap length k ∙ length-set kept n word ∙ long,
  λ i low. ap (λ ws. word_at ws i) k ∙ elim (cases_eq i n) [
    | inl e ↦ ap (word_at (set kept n word)) e ∙ get_or-set_same kept n word [] (omega (arith, ltb-true n 8 small, long)) ∙ sym (place_new done _) ∙ ap (word_at (done ++ word ∷ [])) (sym (e ∙ is))
    | inr ne ↦ get_or-set_other kept n i word [] ne ∙ h i low ∙ sym (place_pushed _ _ i (λ e. ne (e ∙ sym is)))
  ],
)
kept_next kept new done n word false large is long k h = (
  ap length k ∙ long,
  λ i low. ap (λ ws. word_at ws i) k ∙ h i low ∙ sym (place_pushed _ _ i (λ e. absurd (omega (arith, ltb-false n 8 large, is, e)))),
)

pub next : (words kept new : List (List ℕ)) (n : ℕ) (some_empty some_open : Bool) (rest : List (List ℕ)) (word : List ℕ) (more : List (List ℕ))
    → rest ≡ word ∷ more → new ≡ cond (nat_lt n 8) (set kept n word) kept
    → Cutting words kept n some_empty some_open rest → Cutting words new (n + 1) (some_empty || is_empty word) (some_open || is_open word) more
next words kept new n some_empty some_open rest word more h k c =
    let kept_is = kept_next _ _ _ n _ _ refl c.count c.eight k c.first in
    record {
      done = c.done ++ word ∷ [];
      whole = append_assoc c.done _ more ∙ ap (λ ws. c.done ++ ws) (sym h) ∙ c.whole;
      eight = kept_is.0;
      first = kept_is.1;
      count = omega (arith, length-append c.done (word ∷ []), c.count);
      has_empty = ap (λ b. b || is_empty word) c.has_empty ∙ sym (any_push is_empty c.done word);
      has_open = ap (λ b. b || is_open word) c.has_open ∙ sym (any_push is_open c.done word);
    }

pub ended : (words kept : List (List ℕ)) (n : ℕ) (some_empty some_open : Bool) (rest : List (List ℕ)) → rest ≡ []
    → Cutting words kept n some_empty some_open rest → AreWords words kept n some_empty some_open
unfolding has_empty_word has_open_quote
ended words kept n some_empty some_open rest h c =
    let all = sym (append-nil c.done) ∙ ap (λ ws. c.done ++ ws) (sym h) ∙ c.whole in
    record {
      eight = c.eight;
      first = λ i low. c.first i low ∙ ap (λ ws. word_at ws i) all;
      count = c.count ∙ ap length all;
      has_empty = c.has_empty ∙ ap (list_any is_empty) all;
      has_open = c.has_open ∙ ap (list_any is_open) all;
    }

-- ---- there are no more words than bytes, and one
longer_front : (b : ℕ) (lines : List (List ℕ)) (n : ℕ) → length lines ≤ suc n → length (with_front b lines) ≤ suc (suc n)
longer_front b [] n h = omega arith
longer_front b (line ∷ lines) n h = omega arith

few_pieces : (at : Spot) (text : List ℕ) → length (pieces at text) ≤ suc (length text)
unfolding pieces
few_pieces at [] = omega arith
few_pieces at (b ∷ text) =
    elim (parts_words at b) as (λ t. length (cond t ([] ∷ pieces spot.Front text) (with_front b (pieces (after_byte at b) text))) ≤ suc (suc (length text))) [
      | true ↦ omega (arith, few_pieces spot.Front text)
      | false ↦ longer_front b _ _ (few_pieces _ text)
    ]

few_words : (text : List ℕ) → length (words_of text) ≤ suc (length text)
unfolding words_of
few_words [] = omega arith
few_words (b ∷ text) = few_pieces _ _

pub room : (text : List ℕ) (kept : List (List ℕ)) (n : ℕ) (some_empty some_open : Bool) (rest : List (List ℕ)) (word : List ℕ) (more : List (List ℕ)) → rest ≡ word ∷ more
    → Cutting (words_of text) kept n some_empty some_open rest → n ≤ length text
room text kept n some_empty some_open rest word more h c = omega (arith, few_words text, c.count, length-append c.done rest, ap length c.whole, ap length h)
