-- Cutting the first word off.
use Rattle.std.proofs.Common.{◌≡◌, ℕ, zero, suc, ◌+◌, ◌<◌, ◌≤◌, ◌==◌, Bool, true, false, slice_index, sym, cond, List, [], ◌∷◌, length, take, drop, get_or, ap}
use Rattle.std.proofs.Common.{Option, Some, None, Bor, refl, ◌∙◌, arith, inl, inr, add-one, add-zero, drop-cons, length-drop}
use Rattle.std.{specs.{Option.option_map_or, Slice.IsGetRangeResult}, proofs.lemmas.{Bool.{eq-eqb, ne_eqb}, List.{drop_all, length-take-le, take_all, take_rest}}}
use Rattle.memchr.specs.Find.{IsFirstByte, is_byte}
use Rattle.ix_model.specs.world.Texts.{with_front}
use Rattle.ix_script.specs.{texts.Cutting.{pieces, parts_words, after_byte, closes, is_closed}, reader.Cut.end_from, declared.words.Spot.Spot}
use Rattle.ix_text.specs.Bytes.{begins, is_empty}
use Rattle.ix_script.specs.declared.words.Spot.TheVariants as spot

-- ---- words
-- the words after a space; none, where the text is at its end
abbrev pub after_space : List ℕ → List (List ℕ)
after_space [] = []
after_space (b ∷ text) = pieces spot.Front text

cut_end : (at : Spot) (text : List ℕ) → pieces at text ≡ take (end_from at text) text ∷ after_space (drop (end_from at text) text)
unfolding pieces
cut_end at [] = refl
cut_end at (b ∷ text) =
    elim (parts_words at b) as (λ t. let k = cond t 0 (suc (end_from (after_byte at b) text)) in
    cond t ([] ∷ pieces spot.Front text) (with_front b (pieces (after_byte at b) text)) ≡ take k (b ∷ text) ∷ after_space (drop k (b ∷ text))) [
      | true ↦ refl
      | false ↦ ap (with_front b) (cut_end (after_byte at b) text)
    ]

pub cut_within : (at : Spot) (text : List ℕ) (k : ℕ) → k ≡ end_from at text → k < length text → pieces at text ≡ take k text ∷ pieces spot.Front (drop (k + 1) text)
cut_within at text k is low = cut_end at _ ∙ rw (← is, drop-cons text k 0, add-one) refl

pub cut_whole : (at : Spot) (text : List ℕ) (k : ℕ) → k ≡ end_from at text → length text ≤ k → pieces at text ≡ text ∷ []
cut_whole at text k is high = cut_end at _ ∙ rw (← is, drop_all, take_all) refl

-- with what stands behind the space that ends the first word
pub cut_by_get : (text : List ℕ) (end : ℕ) (rest : Option (Bor (List ℕ))) → end ≡ end_from spot.Front text → IsGetRangeResult text (end + 1) (length text) rest
    → pieces spot.Front text ≡ take end text ∷ option_map_or (λ more. pieces spot.Front more.now) rest []
cut_by_get text end None is h = elim h.0 [
  | inl e ↦ cut_whole _ _ _ is (omega (arith, e)) ∙ ap (λ word. word ∷ []) (sym (take_all end text (omega (arith, e))))
  | inr e ↦ absurd (omega (arith, e))
]
cut_by_get text end (Some more) is h =
    cut_within _ _ _ is (omega (arith, h.0.0)) ∙ ap (λ ws. take end text ∷ pieces spot.Front ws) (sym (h.0.2 ∙ take_rest text (end + 1)))

pub end_low : (at : Spot) (text : List ℕ) → end_from at text ≤ length text
end_low at [] = omega arith
end_low at (b ∷ text) = elim (parts_words at b) as (λ t. cond t 0 (suc (end_from (after_byte at b) text)) ≤ suc (length text)) [
  | true ↦ omega arith
  | false ↦ omega (arith, end_low (after_byte at b) text)
]

pub ends_within : (text : List ℕ) (k : ℕ) → k ≡ end_from spot.Front text → k ≡ length (take k text)
ends_within text k is = sym (length-take-le k text (omega (arith, is, end_low spot.Front text)))

-- by a search for the first space
false_of : (b : Bool) → (b ≡ true → ⊥) → b ≡ false
false_of true h = absurd (h refl)
false_of false h = refl

no_space : (text : List ℕ) → ((k : ℕ) → 0 ≤ k → k < length text → (slice_index text k == 32) ≡ true → ⊥) → end_from spot.Plain text ≡ length text
no_space [] h = refl
no_space (b ∷ text) h =
    let here = false_of _ (h 0 (omega arith) (omega arith)) in
    let more = no_space text (λ k low high. h (suc k) (omega arith) (omega arith)) in
    rw (here, more) refl

first_space : (text : List ℕ) (i : ℕ) → i < length text → (slice_index text i == 32) ≡ true → ((k : ℕ) → 0 ≤ k → k < i → (slice_index text k == 32) ≡ true → ⊥) → end_from spot.Plain text ≡ i
first_space [] i low t before = absurd (omega arith)
first_space (b ∷ text) zero low t before = rw t refl
first_space (b ∷ text) (suc i) low t before =
    let here = false_of _ (before 0 (omega arith) (omega arith)) in
    let more = first_space text i (omega arith) t (λ k least high. before (suc k) (omega arith) (omega arith)) in
    rw (here, more) refl

pub by_search : (text : List ℕ) (found : Option ℕ) → IsFirstByte (is_byte 32) text found → option_map_or (λ k. k) found (length text) ≡ end_from spot.Plain text
by_search text None h = sym (no_space _ h)
by_search text (Some i) h = sym (first_space _ i h.0.high h.1 h.0.before)

-- where no quote begins a text its first word is plain
pub plain_end : (text : List ℕ) → begins 34 text ≡ false → end_from spot.Front text ≡ end_from spot.Plain text
plain_end [] h = refl
plain_end (b ∷ text) h = rw h refl

-- ---- walks along a text
pub end_found : (all : ℕ) (at : Spot) (text : List ℕ) (i : ℕ) → i < length text → parts_words at (get_or text i 0) ≡ true
    → all ≡ i + end_from at (drop i text) → i ≡ all
end_found all at text i h t so_far = sym (so_far ∙ rw (drop-cons text i 0, t) (add-zero i))

shifted : (i k : ℕ) → i + suc k ≡ suc i + k
shifted i k = omega arith

pub end_next : (all : ℕ) (at : Spot) (text : List ℕ) (i : ℕ) → i < length text → parts_words at (get_or text i 0) ≡ false → all ≡ i + end_from at (drop i text)
    → all ≡ (i + 1) + end_from (after_byte at (get_or text i 0)) (drop (i + 1) text)
end_next all at text i h t so_far = so_far ∙ rw (drop-cons text i 0, t, add-one) (shifted i _)

pub end_none : (all : ℕ) (at : Spot) (text : List ℕ) (i : ℕ) → length text ≤ i → all ≡ i + end_from at (drop i text) → i ≡ all
end_none all at text i h so_far = sym (so_far ∙ rw (drop_all) (add-zero i))

-- ---- the quote that closes a word
pub last_place : (rest : List ℕ) (i n : ℕ) → length rest + suc i ≡ n → (i + 1 == n) ≡ is_empty rest
last_place [] i n h = eq-eqb _ n (omega arith)
last_place (b ∷ rest) i n h = ne_eqb _ n (λ e. let k = e in absurd (omega arith))

pub closed_here : (at : Spot) (word : List ℕ) (i : ℕ) → i < length word → closes at (get_or word i 0) ≡ true → (i + 1 == length word) ≡ is_closed at (drop i word)
unfolding is_closed
closed_here at word i h t = rw (drop-cons word i 0, t) (last_place _ i _ (omega (arith, length-drop (suc i) word)))

pub closed_next : (at : Spot) (word : List ℕ) (i : ℕ) → i < length word → closes at (get_or word i 0) ≡ false
    → is_closed (after_byte at (get_or word i 0)) (drop (i + 1) word) ≡ is_closed at (drop i word)
unfolding is_closed
closed_next at word i h t = rw (drop-cons word i 0, t, add-one) refl

pub never_closed : (at : Spot) (word : List ℕ) (i : ℕ) → length word ≤ i → is_closed at (drop i word) ≡ false
unfolding is_closed
never_closed at word i h = rw (drop_all) refl
