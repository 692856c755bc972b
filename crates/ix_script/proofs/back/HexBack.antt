-- Pairs of hexadecimal digits, as they are written and read.
use Rattle.std.proofs.Common.{◌≡◌, ℕ, ◌+◌, ◌*◌, ◌/◌, ◌%◌, ◌-◌, ◌<◌, ◌≤◌, Bool, true, false, not, ◌&&◌, ◌==◌, cond, List, [], ◌∷◌, length, Option, Some, None}
use Rattle.std.{proofs.Common.{inl, inr, refl, ap, subst, arith}, specs.{List.{list_all, flat_map}, Option.option_map_or}}
use Rattle.std.proofs.lemmas.{Bool.{agree_below_at, eqb-true, false≢true, Decides.nat_tests}, Option.{none-some, cond_some}}
use Rattle.ix_model.specs.opening.Valid.{is_within}
use Rattle.ix_text.{specs.Spellings.{hex_digit, hex_pair}, proofs.Tests.join_tests}
use Rattle.ix_script.{specs.texts.Payloads.{digit_of, pair_of, pairs_of}, proofs.reader.Told.{bound, mapped, chosen}}

-- a byte that may stand in a word outside quotes
abbrev pub is_tame : ℕ → Bool
is_tame b = is_within 32 126 b && not (b == 32) && not (b == 34)

-- each is below 256
abbrev pub Small : List ℕ → Type 0
Small [] = Unit
Small (b ∷ bytes) = (b < 256) × Small bytes

-- ---- digits that are written
reads_back : ℕ → Bool
reads_back n = option_map_or (λ m. m == n) (digit_of (hex_digit n)) false

told_back : (o : Option ℕ) (n : ℕ) → option_map_or (λ m. m == n) o false ≡ true → o ≡ Some n
told_back None n h = absurd (false≢true h)
told_back (Some m) n h = ap (λ k. Some k) (eqb-true m n h)

pub digit_back : (n : ℕ) → n < 16 → digit_of (hex_digit n) ≡ Some n
unfolding reads_back digit_of
digit_back n h = told_back _ n (agree_below_at reads_back (λ k. true) 16 n refl h)

pub digit_tame : (n : ℕ) → n < 16 → is_tame (hex_digit n) ≡ true
digit_tame n h = agree_below_at (λ k. is_tame (hex_digit k)) (λ k. true) 16 n refl h

pub digit_inside : (n : ℕ) → n < 16 → (hex_digit n == 92) ≡ false
digit_inside n h = agree_below_at (λ k. hex_digit k == 92) (λ k. false) 16 n refl h

high_digit : (b : ℕ) → b < 256 → b / 16 < 16
high_digit b h = omega arith

pub pair_back : (b : ℕ) → b < 256 → pair_of (hex_digit (b / 16)) (hex_digit (b % 16)) ≡ Some b
unfolding pair_of
pair_back b h =
    let whole : b / 16 * 16 + b % 16 ≡ b = omega arith in
    let low : b % 16 < 16 = omega arith in
    rw (digit_back (b / 16) (high_digit b h), digit_back) (ap (λ k. Some k) whole)

pub pairs_back : (bytes : List ℕ) → Small bytes → pairs_of (flat_map hex_pair bytes) ≡ Some bytes
unfolding pairs_of
pairs_back [] h = refl
pairs_back (b ∷ bytes) h = rw (pair_back b h.0, pairs_back bytes h.1) refl

pub pairs_tame : (bytes : List ℕ) → Small bytes → list_all is_tame (flat_map hex_pair bytes) ≡ true
pairs_tame [] h = refl
pairs_tame (b ∷ bytes) h =
    let low : b % 16 < 16 = omega arith in
    join_tests _ _ (digit_tame _ (high_digit b h.0)) (join_tests _ _ (digit_tame _ low) (pairs_tame bytes h.1))

-- ---- digits that are read
some_below : (b n low : ℕ) → is_within low (low + 9) b ≡ true → b - low ≡ n → n < 10
some_below b n low h e = grind (arith, nat_tests)

some_letter : (b n low : ℕ) → is_within low (low + 5) b ≡ true → 10 ≤ low → b - (low - 10) ≡ n → n < 16
some_letter b n low h most e = grind (arith, nat_tests)

pub digit_small : (b n : ℕ) → digit_of b ≡ Some n → n < 16
unfolding digit_of
digit_small b n h = elim (chosen _ _ (cond (is_within 97 102 b) _ _) n h) [
  | inl p ↦ let k = some_below b n 48 p.0 p.1 in omega arith
  | inr k ↦ elim (chosen _ _ (cond (is_within 65 70 b) (Some (b - 55)) None) n k) [
    | inl p ↦ some_letter b n 97 p.0 (omega arith) p.1
    | inr k ↦ let p = cond_some (is_within 65 70 b) (b - 55) n k in some_letter b n 65 p.0 (omega arith) p.1
  ]
]

pub pair_small : (high low b : ℕ) → pair_of high low ≡ Some b → b < 256
unfolding pair_of
pair_small high low b h =
    let p = bound _ _ b h in
    let q = bound _ _ b p.2 in
    let e : p.0 * 16 + q.0 ≡ b = cc (q.2) in
    let k = digit_small _ _ p.1 in
    let m = digit_small _ _ q.1 in
    omega arith

-- so many digits are read for so many bytes
pub pairs_long : (text bytes : List ℕ) → pairs_of text ≡ Some bytes → (length text ≡ length bytes * 2) × Small bytes
unfolding pairs_of
pairs_long [] [] h = (refl, tt)
pairs_long [] (b ∷ bytes) h = cc
pairs_long (high ∷ []) bytes h = absurd (none-some bytes h)
pairs_long (high ∷ low ∷ text) bytes h =
    let p = bound _ _ _ h in
    let m = mapped (λ more. p.0 ∷ more) (pairs_of text) _ p.2 in
    let k = pairs_long text m.0 m.1 in
    let e : length (p.0 ∷ m.0) ≡ length bytes = ap length m.2 in
    (omega arith, subst (λ bs. Small bs) m.2 (pair_small high low p.0 p.1, k.1))
