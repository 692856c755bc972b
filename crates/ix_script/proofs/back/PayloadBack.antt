-- The shortest spelling of a payload is a word that is read back.
use Rattle.std.proofs.Common.{◌≡◌, ℕ, ◌+◌, ◌^◌, ◌<◌, true, false, not, ◌&&◌, ◌||◌, ◌==◌, List, [], ◌∷◌, ◌++◌, length, get_or, take, drop, replicate, ap, Some, inl, inr, refl, ◌∙◌, arith}
use Rattle.std.{specs.{List.{list_all, position, position_or_len}, Fmt.decimal}, proofs.{lemmas.List.Folds.list_all-append, Math.Seq.{take-append_seam, drop-append-add}}}
use Rattle.std.proofs.lemmas.Bool.{cases_Bool, ne_eqb, ltb-true, ltb-false, lt-ltb, not_from_false, not-true, or_right, Decides.nat_tests}
use Rattle.std.proofs.lemmas.{Fmt.{digits_decimal, digits_value-decimal, decimal_nonempty, first_decimal, decimal_digit}, List.length-append}
use Rattle.ix_model.specs.opening.Valid.{is_within}
use Rattle.ix_script.specs.texts.{Cutting.{pieces, is_open}, Words.{is_numeral, value}, Payloads.{◌>>=◌, times_from, times_of, payload_of}, Spellings.{pairs_text, times_text}}
use Rattle.ix_text.{specs.{Bytes.{begins, is_empty, is_digit, begins_with}, Spellings.hex_pair}, proofs.Tests.{both, join_tests, list_all_weaker}}
use Rattle.ix_script.proofs.back.{OneSpelling.numerals, HexBack.{is_tame, Small, pair_back, pairs_back, pairs_tame}}
use Rattle.ix_script.specs.declared.words.Spot.TheVariants as spot

-- a word that is read as these bytes, and is one word
pub record Spells (bytes word : List ℕ) : Type 0 where
  pub read : payload_of word ≡ Some bytes
  pub whole : pieces spot.Front word ≡ word ∷ []
  pub some : is_empty word ≡ false
  pub closed : is_open word ≡ false
  pub printable : list_all (is_within 32 126) word ≡ true

-- ---- words outside quotes
pub tame_parts : (b : ℕ) → is_tame b ≡ true → (is_within 32 126 b ≡ true) × ((b == 32) ≡ false) × ((b == 34) ≡ false)
tame_parts b h =
    let p = both (is_within 32 126 b && not _) (not _) h in
    let q = both (is_within 32 126 b) (not _) p.0 in
    (q.0, not-true _ q.1, not-true _ p.1)

tame_printable : (word : List ℕ) → list_all is_tame word ≡ true → list_all (is_within 32 126) word ≡ true
tame_printable word h = list_all_weaker _ _ (λ b t. (tame_parts b t).0) word h

plain_whole : (word : List ℕ) → list_all is_tame word ≡ true → pieces spot.Plain word ≡ word ∷ []
unfolding pieces
plain_whole [] h = refl
plain_whole (b ∷ word) h =
    let p = both (is_tame b) (list_all is_tame word) h in
    rw ((tame_parts b p.0).1, plain_whole word p.1) refl

pub tame_whole : (b : ℕ) (word : List ℕ) → list_all is_tame (b ∷ word) ≡ true → pieces spot.Front (b ∷ word) ≡ (b ∷ word) ∷ []
unfolding pieces
tame_whole b word h =
    let p = both (is_tame b) (list_all is_tame word) h in
    let t = tame_parts b p.0 in
    rw (t.1, t.2, plain_whole word p.1) refl

pub tame_closed : (b : ℕ) (word : List ℕ) → list_all is_tame (b ∷ word) ≡ true → is_open (b ∷ word) ≡ false
tame_closed b word h =
    let p = both (is_tame b) (list_all is_tame word) h in
    rw (tame_parts b p.0).2 refl

tame_spells : (bytes : List ℕ) (b : ℕ) (word : List ℕ) → list_all is_tame (b ∷ word) ≡ true → payload_of (b ∷ word) ≡ Some bytes → Spells bytes (b ∷ word)
tame_spells bytes b word h read = record {
  read = read;
  whole = tame_whole b _ h;
  some = refl;
  closed = tame_closed b _ h;
  printable = tame_printable (b ∷ word) h;
}

-- ---- `x` and pairs
pub pairs_spell : (bytes : List ℕ) → Small bytes → Spells bytes (pairs_text bytes)
unfolding payload_of
pairs_spell bytes h = tame_spells _ _ _ (pairs_tame _ h) (pairs_back _ h)

-- ---- n*HH
digit_apart : (b : ℕ) → is_digit b ≡ true → (is_tame b ≡ true) × ((b == 42) ≡ false) × ((b == 120) ≡ false)
digit_apart b h = (grind (arith, nat_tests), grind (arith, nat_tests), grind (arith, nat_tests))

star_after : (ds rest : List ℕ) → list_all is_digit ds ≡ true → position_or_len (λ b. b == 42) (ds ++ 42 ∷ rest) ≡ length ds
star_after [] rest h = refl
star_after (d ∷ ds) rest h =
    let p = both (is_digit d) (list_all is_digit ds) h in
    let k = star_after ds rest p.1 in
    rw ((digit_apart d p.0).1, k) (omega arith)

star_found : (ds rest : List ℕ) → list_all is_digit ds ≡ true → position (λ b. b == 42) (ds ++ 42 ∷ rest) ≡ Some (length ds)
star_found ds rest h =
    let inside : length ds < length (ds ++ 42 ∷ rest) = omega (arith, length-append ds (42 ∷ rest)) in
    rw (star_after, lt-ltb) refl

decimal_digits : (n : ℕ) → n < 2 ^ 64 → list_all is_digit (decimal n) ≡ true
decimal_digits n h = digits_decimal numerals n h

first_is_digit : (ds : List ℕ) → 0 < length ds → list_all is_digit ds ≡ true → begins_with is_digit ds ≡ true
first_is_digit [] some h = absurd (omega arith)
first_is_digit (d ∷ ds) some h = (both (is_digit d) (list_all is_digit ds) h).0

lone_or_not : (n : ℕ) → n < 2 ^ 64 → (length (decimal n) == 1 || not (begins 48 (decimal n))) ≡ true
lone_or_not n h = elim (cases_Bool _) [
  | inl e ↦ let few = ltb-true n 10 e in rw (decimal_digit) refl
  | inr e ↦ or_right (length _ == 1) _ (not_from_false _ (no_zero (decimal n) (first_decimal n (omega (arith, ltb-false n 10 e)) h)))
]
  where
    no_zero : (ds : List ℕ) → 48 < get_or ds 0 0 → begins 48 ds ≡ false
    no_zero [] h = refl
    no_zero (d ∷ ds) h = ne_eqb d 48 (λ e. omega arith)

pub decimal_numeral : (n : ℕ) → n < 2 ^ 64 → is_numeral (decimal n) ≡ true
unfolding is_numeral
decimal_numeral n h =
    let all = decimal_digits n h in
    join_tests _ _ (join_tests _ _ (first_is_digit _ (decimal_nonempty n h) all) all) (lone_or_not n h)

decimal_value : (n : ℕ) → n < 2 ^ 64 → value (decimal n) ≡ n
unfolding value
decimal_value n h = digits_value-decimal numerals n h

times_back : (n b : ℕ) → n < 2 ^ 64 → b < 256 → times_of (times_text n b) ≡ Some (replicate n b)
unfolding times_of times_from
times_back n b h small =
    let rest = hex_pair b in
    let found = star_found _ _ (decimal_digits n h) in
    let count = take-append_seam _ _ in
    let after = drop-append-add (decimal n) _ 1 in
    ap (λ o. o >>= λ star. times_from (take star (decimal n ++ 42 ∷ rest)) (drop (star + 1) (decimal n ++ 42 ∷ rest))) found
    ∙ ap (λ c. times_from c (drop (length (decimal n) + 1) (decimal n ++ 42 ∷ rest))) count ∙ ap (times_from (decimal n)) after
    ∙ rw (decimal_numeral n h, pair_back b small, decimal_value n h) refl

times_tame : (n b : ℕ) → n < 2 ^ 64 → b < 256 → list_all is_tame (times_text n b) ≡ true
times_tame n b h small = list_all-append is_tame (decimal n) (42 ∷ hex_pair b)
    ∙ join_tests _ _ (list_all_weaker _ _ (λ d t. (digit_apart d t).0) (decimal n) (decimal_digits n h)) (pairs_tame (b ∷ []) (small, tt))

by_star : (ds rest bytes : List ℕ) → 0 < length ds → list_all is_digit ds ≡ true → list_all is_tame (ds ++ rest) ≡ true → times_of (ds ++ rest) ≡ Some bytes → Spells bytes (ds ++ rest)
unfolding payload_of
by_star [] rest bytes some all tame read = absurd (omega arith)
by_star (d ∷ ds) rest bytes some all tame read =
    let p = both (is_digit d) (list_all is_digit ds) all in
    let q = digit_apart d p.0 in
    tame_spells _ d _ tame (rw ((tame_parts d q.0).2, q.2) read)

pub times_spell : (n b : ℕ) → n < 2 ^ 64 → b < 256 → Spells (replicate n b) (times_text n b)
times_spell n b h small = by_star _ _ _ (decimal_nonempty n h) (decimal_digits n h) (times_tame n b h small) (times_back n b h small)
