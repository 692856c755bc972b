-- What the code's work on words does to the label that they hold.
use Rattle.std.proofs.Common.{◌≡◌, ℕ, zero, suc, ◌+◌, ◌-◌, ◌*◌, ◌^◌, ◌/◌, ◌%◌, ◌<◌, ◌≤◌, ◌==◌, not, Bool, true, false, true≢false, ◌&&◌, ◌||◌, List, [], ◌∷◌, nat_eq}
use Rattle.std.proofs.Common.{length, get_or, refl, sym, ◌∙◌, ap, arith, min, max, inl, inr, ◌≢◌, w64, Option, None, Some, get_or-set_same, get_or-set_other}
use Rattle.std.specs.{Cmp.Lexicographic.{pointwise, bytes_decides}, Int.{bit_at, bit_not, trailing_zeros, Bits.{bit_or, bit_and}}}
use Rattle.std.proofs.lemmas.Nat.Bits.{same_from_bits, same_from_bits_below, bit_at_above, bit_at_not, bit_at-trailing_zeros, bit_at_or, bit_at_and, bit_at-lt}
use Rattle.std.proofs.lemmas.Nat.Bits.{bit_at-zero, shr_and_one, bit_at_ones, bit_at_set_same, bit_at_set_other}
use Rattle.std.proofs.lemmas.{List.get_or_past, Bool.{cases_lt, ne_eqb, eq-eqb, eqb-true, false_from_ne_true}, Nat.{or_lt, shr-shr}}
use Rattle.std.proofs.{lemmas.Bool.Decides.{eqb_tells, same_from_decides}, Math.{ListN.{set, length-set}, Nat.div-le_self}}
use Rattle.ix_label.specs.{declared.form.Form.TheVariants.{One, Two}, Category.{IsLabel, has, bottom, top, all_below, with, join, meet, leq, same}}
use Rattle.ix_label.specs.{Forms.{all_of, greatest, narrow}, Scanning.{IsFirstBit, FirstBit, FirstFrom, RunsTo}, Lattice.{join-absorbs, leq-by_join, same-decides}}
use Rattle.ix_label.specs.Words.{has_bit, has_bit_past, members, has-members, AreWords, words_of, words_of-members}
use Rattle.ix_label.specs.Members.{same_members, has-bottom, has-all_below, has-all_below_past, has-with, has-join, has-meet, leq-has, has-leq}

-- words that hold one label are equal
members_injective : (a b : List ℕ) → AreWords a → AreWords b → members a ≡ members b → a ≡ b
members_injective a b h k e = sym (words_of-members a h) ∙ ap words_of e ∙ words_of-members b k

max_bit : (x y : ℕ) → x < 2 → y < 2 → (max x y == 1) ≡ ((x == 1) || (y == 1))
max_bit zero zero h k = refl
max_bit zero (suc zero) h k = refl
max_bit (suc zero) zero h k = refl
max_bit (suc zero) (suc zero) h k = refl
max_bit zero (suc (suc y)) h k = absurd (omega arith)
max_bit (suc zero) (suc (suc y)) h k = absurd (omega arith)
max_bit (suc (suc x)) y h k = absurd (omega arith)

min_bit : (x y : ℕ) → x < 2 → y < 2 → (min x y == 1) ≡ ((x == 1) && (y == 1))
min_bit zero zero h k = refl
min_bit zero (suc zero) h k = refl
min_bit (suc zero) zero h k = refl
min_bit (suc zero) (suc zero) h k = refl
min_bit zero (suc (suc y)) h k = absurd (omega arith)
min_bit (suc zero) (suc (suc y)) h k = absurd (omega arith)
min_bit (suc (suc x)) y h k = absurd (omega arith)

has_bit-or : (a b c : List ℕ) (q : ℕ) → get_or c (q / 64) 0 ≡ bit_or (get_or a (q / 64) 0) (get_or b (q / 64) 0) → has_bit c q ≡ (has_bit a q || has_bit b q)
unfolding has_bit
has_bit-or a b c q h = rw (h, bit_at_or) (max_bit _ _ (bit_at-lt _ _) (bit_at-lt _ _))

has_bit-and : (a b c : List ℕ) (q : ℕ) → get_or c (q / 64) 0 ≡ bit_and (get_or a (q / 64) 0) (get_or b (q / 64) 0) → has_bit c q ≡ (has_bit a q && has_bit b q)
unfolding has_bit
has_bit-and a b c q h = rw (h, bit_at_and) (min_bit _ _ (bit_at-lt _ _) (bit_at-lt _ _))

pub members-union : (a b c : List ℕ) → AreWords a → AreWords b → length c ≡ 8 → ((k : ℕ) → k < 8 → get_or c k 0 ≡ bit_or (get_or a k 0) (get_or b k 0)) → members c ≡ join (members a) (members b)
members-union a b c wa wb count h = same_members _ _ (λ q.
    has-members c q
    ∙ elim (cases_lt q 512) [
      | inl low ↦ has_bit-or a b c q (h (q / 64) (omega arith))
      | inr high ↦ rw (has_bit_past a q (omega (arith, wa.count)), has_bit_past b q (omega (arith, wb.count)), has_bit_past c q (omega arith)) refl
    ]
    ∙ sym (has-join (members a) (members b) q ∙ (λ i. has-members a q i || has-members b q i)))

pub members-intersection : (a b c : List ℕ) → AreWords a → length c ≡ 8 → ((k : ℕ) → k < 8 → get_or c k 0 ≡ bit_and (get_or a k 0) (get_or b k 0)) → members c ≡ meet (members a) (members b)
members-intersection a b c wa count h = same_members _ _ (λ q.
    has-members c q
    ∙ elim (cases_lt q 512) [
      | inl low ↦ has_bit-and a b c q (h (q / 64) (omega arith))
      | inr high ↦ rw (has_bit_past a q (omega (arith, wa.count)), has_bit_past c q (omega arith)) refl
    ]
    ∙ sym (has-meet (members a) (members b) q ∙ (λ i. has-members a q i && has-members b q i)))

-- words are compared where the code compares labels
pub words_same : (a b : List ℕ) → AreWords a → AreWords b → pointwise nat_eq a b ≡ same (members a) (members b)
words_same a b wa wb =
    let equal = bytes_decides a b in
    same_from_decides _ _ (λ yes. ap members (equal.0 yes), λ e. equal.1 (members_injective a b wa wb e)) (same-decides _ _)

union-AreWords : (a b c : List ℕ) → AreWords a → AreWords b → length c ≡ 8 → ((k : ℕ) → k < 8 → get_or c k 0 ≡ bit_or (get_or a k 0) (get_or b k 0)) → AreWords c
union-AreWords a b c wa wb count h = record {
  count = count;
  fit = λ k. elim (cases_lt k 8) [
    | inl low ↦ rw h (or_lt 64 _ _ (wa.fit k) (wb.fit k))
    | inr high ↦ rw (get_or_past c k 0 (omega arith)) (omega arith)
  ];
}

-- the union of two words' bits is the second's where the first label is at or below the second
pub words_leq : (a b c : List ℕ) → AreWords a → AreWords b → length c ≡ 8 → ((k : ℕ) → k < 8 → get_or c k 0 ≡ bit_or (get_or b k 0) (get_or a k 0)) → pointwise nat_eq c b ≡ leq (members a) (members b)
words_leq a b c wa wb count h =
    let equal = bytes_decides c b in
    let joined = members-union b a c wb wa count h in
    same_from_decides _ _ (
      λ yes. leq-by_join _ _ (sym joined ∙ ap members (equal.0 yes)),
      λ below. equal.1 (members_injective c b (union-AreWords b a c wb wa count h) wb (joined ∙ join-absorbs _ _ below)),
    )
    (λ yes. yes, λ yes. yes)

-- what the code tests at a category
bit_test : (words : List ℕ) (q : ℕ) → (bit_at (get_or words (q / 64) 0) (q % 64) == 1) ≡ has_bit words q
unfolding has_bit
bit_test words q = refl

pub tested : (words : List ℕ) (q : ℕ) → (bit_and (get_or words (q / 64) 0 / 2 ^ (q % 64)) 1 == 1) ≡ has (members words) q
tested words q = rw shr_and_one (bit_test _ q ∙ sym (has-members _ q))

zeros : (k : ℕ) → get_or {A = ℕ} (0 ∷ 0 ∷ 0 ∷ 0 ∷ 0 ∷ 0 ∷ 0 ∷ 0 ∷ []) k 0 ≡ 0
zeros zero = refl
zeros (suc zero) = refl
zeros (suc (suc zero)) = refl
zeros (suc (suc (suc zero))) = refl
zeros (suc (suc (suc (suc zero)))) = refl
zeros (suc (suc (suc (suc (suc zero))))) = refl
zeros (suc (suc (suc (suc (suc (suc zero)))))) = refl
zeros (suc (suc (suc (suc (suc (suc (suc zero))))))) = refl
zeros (suc (suc (suc (suc (suc (suc (suc (suc k)))))))) = refl

no_bit : (q : ℕ) → has_bit (0 ∷ 0 ∷ 0 ∷ 0 ∷ 0 ∷ 0 ∷ 0 ∷ 0 ∷ []) q ≡ false
unfolding has_bit
no_bit q = rw (zeros, bit_at-zero) refl

pub members-bottom : members (0 ∷ 0 ∷ 0 ∷ 0 ∷ 0 ∷ 0 ∷ 0 ∷ 0 ∷ []) ≡ bottom
members-bottom = same_members _ _ (λ q. has-members _ q ∙ no_bit q ∙ sym (has-bottom q))

-- words of which the first n are full and the others empty
record AreFull (words : List ℕ) (n : ℕ) : Type 0 where
  count : length words ≡ 8
  most : n ≤ 8
  full : (k : ℕ) → k < n → get_or words k 0 ≡ 2 ^ 64 - 1
  empty : (k : ℕ) → n ≤ k → get_or words k 0 ≡ 0

members-full : (words : List ℕ) (n : ℕ) → AreFull words n → members words ≡ all_below (64 * n)
unfolding has_bit
members-full words n h = same_members _ _ (λ q. has-members words q ∙ elim (cases_lt q (64 * n)) [
  | inl low ↦ rw (h.full (q / 64) (omega arith), bit_at_ones 64 (q % 64) (omega arith)) (sym (has-all_below (64 * n) q low))
  | inr high ↦ rw (h.empty (q / 64) (omega arith), bit_at-zero) (sym (has-all_below_past (64 * n) q high))
])

abbrev ones : List ℕ
ones = 18446744073709551615 ∷ 18446744073709551615 ∷ 18446744073709551615 ∷ 18446744073709551615 ∷ 18446744073709551615 ∷ 18446744073709551615 ∷ 18446744073709551615 ∷ 18446744073709551615 ∷ []

all_ones : (k : ℕ) → k < 8 → get_or {A = ℕ} ones k 0 ≡ 2 ^ 64 - 1
all_ones zero h = refl
all_ones (suc zero) h = refl
all_ones (suc (suc zero)) h = refl
all_ones (suc (suc (suc zero))) h = refl
all_ones (suc (suc (suc (suc zero)))) h = refl
all_ones (suc (suc (suc (suc (suc zero))))) h = refl
all_ones (suc (suc (suc (suc (suc (suc zero)))))) h = refl
all_ones (suc (suc (suc (suc (suc (suc (suc zero))))))) h = refl
all_ones (suc (suc (suc (suc (suc (suc (suc (suc k)))))))) h = absurd (omega arith)

pub members-top : members ones ≡ top
unfolding top
members-top = members-full _ 8 (record { count = refl; most = omega arith; full = all_ones; empty = λ k high. get_or_past ones k 0 high })

abbrev low_ones : List ℕ
low_ones = 18446744073709551615 ∷ 18446744073709551615 ∷ 18446744073709551615 ∷ 18446744073709551615 ∷ 0 ∷ 0 ∷ 0 ∷ 0 ∷ []

low_full : (k : ℕ) → k < 4 → get_or {A = ℕ} low_ones k 0 ≡ 2 ^ 64 - 1
low_full zero h = refl
low_full (suc zero) h = refl
low_full (suc (suc zero)) h = refl
low_full (suc (suc (suc zero))) h = refl
low_full (suc (suc (suc (suc k)))) h = absurd (omega arith)

low_empty : (k : ℕ) → 4 ≤ k → get_or {A = ℕ} low_ones k 0 ≡ 0
low_empty zero h = absurd (omega arith)
low_empty (suc zero) h = absurd (omega arith)
low_empty (suc (suc zero)) h = absurd (omega arith)
low_empty (suc (suc (suc zero))) h = absurd (omega arith)
low_empty (suc (suc (suc (suc zero)))) h = refl
low_empty (suc (suc (suc (suc (suc zero))))) h = refl
low_empty (suc (suc (suc (suc (suc (suc zero)))))) h = refl
low_empty (suc (suc (suc (suc (suc (suc (suc zero))))))) h = refl
low_empty (suc (suc (suc (suc (suc (suc (suc (suc k)))))))) h = refl

pub members-all_of_one : members low_ones ≡ all_of One
unfolding all_of greatest
members-all_of_one = members-full _ 4 (record { count = refl; most = omega arith; full = low_full; empty = low_empty })

pub top-all_of : top ≡ all_of Two
unfolding top all_of greatest
top-all_of = refl

-- the word with one bit more, as the code makes it
abbrev with_bit : List ℕ → ℕ → ℕ
with_bit words q = bit_or (get_or words (q / 64) 0) (1 * 2 ^ (q % 64) % 2 ^ 64)

has_bit-with : (words : List ℕ) (q x : ℕ) → length words ≡ 8 → q < 512 → has_bit (set words (q / 64) (with_bit words q)) x ≡ ((x == q) || has_bit words x)
unfolding has_bit
has_bit-with words q x count low =
    elim (eqb_tells (x / 64) (q / 64)) [
      | inl same ↦
          let within : q / 64 < length words = omega arith in
          elim (eqb_tells x q) [
            | inl one ↦ rw (
              same.1,
              get_or-set_same words (q / 64) (with_bit words q) 0 within,
              one.0,
              ap (λ k. k % 64) one.1,
              bit_at_set_same w64 (get_or words (q / 64) 0) (q % 64)
                  (omega arith),
            ) refl
            | inr two ↦
                let ne : x % 64 ≢ q % 64 = λ e. two.1 (omega (arith, same.1)) in
                rw (same.1, get_or-set_same words (q / 64) (with_bit words q) 0 within, two.0, bit_at_set_other w64 (get_or words (q / 64) 0) (q % 64) (omega arith) (x % 64) ne) refl
          ]
      | inr other ↦
          let ne : x ≡ q → ⊥ = λ e. other.1 (ap (λ k. k / 64) e) in
          rw (ne_eqb x q ne, get_or-set_other words (q / 64) (x / 64) (with_bit words q) 0 other.1) refl
    ]

pub members-with : (words : List ℕ) (q : ℕ) → length words ≡ 8 → q < 512 → members (set words (q / 64) (with_bit words q)) ≡ with (members words) q
members-with words q count low = same_members _ _ (λ x.
    has-members _ x ∙ has_bit-with _ q x count low
    ∙ sym (has-with _ q x ∙ (λ i. (x == q) || has-members words x i)))

pub with-AreWords : (words : List ℕ) (q : ℕ) → q < 512 → AreWords words → AreWords (set words (q / 64) (with_bit words q))
with-AreWords words q low h =
    let within : q / 64 < length words = omega (arith, h.count) in
    record {
      count = length-set words (q / 64) (with_bit words q) ∙ h.count;
      fit = λ k. elim (eqb_tells k (q / 64)) [
        | inl here ↦ rw (here.1, get_or-set_same words (q / 64) (with_bit words q) 0 within) (or_lt 64 _ _ (h.fit (q / 64)) (omega arith))
        | inr other ↦ rw (get_or-set_other words (q / 64) k (with_bit words q) 0 other.1) (h.fit k)
      ];
    }

-- the categories of eight words are below 512
pub members-IsLabel : (words : List ℕ) → AreWords words → IsLabel (members words)
members-IsLabel words h = record {
  below = λ q one. elim (cases_lt q 512) [
    | inl low ↦ low
    | inr high ↦ absurd (true≢false (sym one ∙ has-members _ q ∙ has_bit_past _ q (omega (arith, h.count))))
  ];
}

pub none_past : (words : List ℕ) (q : ℕ) → AreWords words → 512 ≤ q → has (members words) q ≡ false
none_past words q h past = has-members _ q ∙ has_bit_past _ q (omega (arith, h.count))

-- ---- narrow words

no_category : (words : List ℕ) (q : ℕ) → get_or words (q / 64) 0 ≡ 0 → has (members words) q ≡ false
unfolding has_bit
no_category words q h = has-members _ q ∙ rw (h, bit_at-zero) refl

-- the parts of a union that is 0
or_none : (a b : ℕ) → bit_or a b ≡ 0 → (a ≡ 0) × (b ≡ 0)
or_none a b h = (same_from_bits a 0 (λ i. rw bit_at-zero (omega (arith, none i))), same_from_bits b 0 (λ i. rw bit_at-zero (omega (arith, none i))))
  where
    none : (i : ℕ) → max (bit_at a i) (bit_at b i) ≡ 0
    none i = sym (bit_at_or a b i) ∙ ap (λ x. bit_at x i) h ∙ bit_at-zero i

-- what the code tests of the four higher words
abbrev higher : List ℕ → ℕ
higher words = bit_or (bit_or (bit_or (get_or words 4 0) (get_or words 5 0)) (get_or words 6 0)) (get_or words 7 0)

higher_none : (words : List ℕ) → AreWords words → higher words ≡ 0 → (k : ℕ) → 4 ≤ k → get_or words k 0 ≡ 0
higher_none words wa h =
    let d = or_none _ _ h in
    let c = or_none _ _ d.0 in
    let b = or_none _ _ c.0 in
    at b.0 b.1 c.1 d.1
  where
    at : get_or words 4 0 ≡ 0 → get_or words 5 0 ≡ 0 → get_or words 6 0 ≡ 0 → get_or words 7 0 ≡ 0 → (k : ℕ) → 4 ≤ k → get_or words k 0 ≡ 0
    at four five six seven zero up = absurd (omega arith)
    at four five six seven (suc zero) up = absurd (omega arith)
    at four five six seven (suc (suc zero)) up = absurd (omega arith)
    at four five six seven (suc (suc (suc zero))) up = absurd (omega arith)
    at four five six seven (suc (suc (suc (suc zero)))) up = four
    at four five six seven (suc (suc (suc (suc (suc zero))))) up = five
    at four five six seven (suc (suc (suc (suc (suc (suc zero)))))) up = six
    at four five six seven (suc (suc (suc (suc (suc (suc (suc zero))))))) up = seven
    at four five six seven (suc (suc (suc (suc (suc (suc (suc (suc k)))))))) up = get_or_past words _ 0 (omega (arith, wa.count))

-- a word of a narrow label from the fourth on is 0
narrow_word : (words : List ℕ) (k : ℕ) → AreWords words → leq (members words) (all_below 256) ≡ true → 4 ≤ k → get_or words k 0 ≡ 0
unfolding has_bit
narrow_word words k wa h up = same_from_bits_below 64 _ 0 (wa.fit k) (omega arith) (λ i low.
    let place : (64 * k + i) / 64 ≡ k = omega arith in
    let bit : (64 * k + i) % 64 ≡ i = omega arith in
    let past : has (members words) (64 * k + i) ≡ false = false_from_ne_true _ (λ one. true≢false (sym (leq-has _ _ h _ one) ∙ has-all_below_past 256 (64 * k + i) (omega arith))) in
    let none : (bit_at (get_or words k 0) i == 1) ≡ false = rw (place, bit) at (sym (has-members words (64 * k + i)) ∙ past) in
    rw bit_at-zero (bit_none _ (bit_at-lt _ i) none))
  where
    bit_none : (b : ℕ) → b < 2 → (b == 1) ≡ false → b ≡ 0
    bit_none zero h k = refl
    bit_none (suc zero) h k = absurd (true≢false k)
    bit_none (suc (suc b)) h k = absurd (omega arith)

pub words_narrow : (words : List ℕ) → AreWords words → (higher words == 0) ≡ narrow (members words)
unfolding narrow
words_narrow words wa = same_from_decides {P = higher words ≡ 0} _ _ (λ is. eqb-true _ _ is, λ e. eq-eqb _ _ e) (
  λ is. higher_zero is,
  λ none. has-leq _ _ (λ q one. elim (cases_lt q 256) [
    | inl low ↦ has-all_below 256 q low
    | inr high ↦ absurd (true≢false (sym one ∙ no_category words q (higher_none words wa none (q / 64) (omega arith))))
  ]),
)
  where
    higher_zero : leq (members words) (all_below 256) ≡ true → higher words ≡ 0
    higher_zero h = rw (narrow_word words 4 wa h (omega arith), narrow_word words 5 wa h (omega arith), narrow_word words 6 wa h (omega arith), narrow_word words 7 wa h (omega arith)) refl

-- ---- bits that are looked for

has_bit-not : (a c : List ℕ) (q : ℕ) → AreWords a → q < 512 → get_or c (q / 64) 0 ≡ bit_not w64 (get_or a (q / 64) 0) → has_bit c q ≡ not (has_bit a q)
unfolding has_bit
has_bit-not a c q wa low h = rw (h, bit_at_not w64 (get_or a (q / 64) 0) (q % 64) (wa.fit (q / 64)) (omega arith)) (turned _ (bit_at-lt _ _))
  where
    turned : (b : ℕ) → b < 2 → (1 - b == 1) ≡ not (b == 1)
    turned zero h = refl
    turned (suc zero) h = refl
    turned (suc (suc b)) h = absurd (omega arith)

-- the bits of the word that the place is in, from the place on
bit_ahead : (words : List ℕ) (at i : ℕ) → at % 64 + i < 64 → (bit_at (get_or words (at / 64) 0 / 2 ^ (at % 64)) i == 1) ≡ has_bit words (at + i)
unfolding has_bit
bit_ahead words at i low =
    let place : (at + i) / 64 ≡ at / 64 = omega arith in
    let bit : (at + i) % 64 ≡ at % 64 + i = omega arith in
    rw (place, bit) (ap (λ x. x % 2 == 1) (shr-shr _ _ i))

-- no bit from the first place to the second is 1
abbrev pub NoBits : List ℕ → ℕ → ℕ → Type 0
NoBits words from at = (q : ℕ) → from ≤ q → q < at → has_bit words q ≡ false

-- the word has no more
pub none_ahead : (words : List ℕ) (from at : ℕ) → NoBits words from at → get_or words (at / 64) 0 / 2 ^ (at % 64) ≡ 0 → NoBits words from ((at / 64 + 1) * 64)
none_ahead words from at so_far none q low high = elim (cases_lt q at) [
  | inl before ↦ so_far q low before
  | inr after ↦
      let place : at + (q - at) ≡ q = omega arith in
      let bit : (bit_at (get_or words (at / 64) 0 / 2 ^ (at % 64)) (q - at) == 1) ≡ has_bit words q = rw place at (bit_ahead words at (q - at) (omega arith)) in
      sym bit ∙ rw (none, bit_at-zero) refl
]

-- a bit of the rest of a word is a bit of the word
rest_bit : (w r i : ℕ) → w < 2 ^ 64 → r < 64 → bit_at (w / 2 ^ r) i ≡ 1 → r + i < 64
rest_bit w r i fits low one = elim (cases_lt _ 64) [
  | inl within ↦ within
  | inr past ↦
      let none = ap (λ x. x % 2) (shr-shr w r i) ∙ bit_at_above w 64 _ fits past in
      omega arith
]

found : (words : List ℕ) (from at w : ℕ) → w < 2 ^ 64 → from ≤ at → NoBits words from at → 0 < w / 2 ^ (at % 64)
    → ((i : ℕ) → at % 64 + i < 64 → (bit_at (w / 2 ^ (at % 64)) i == 1) ≡ has_bit words (at + i)) → IsFirstBit words from (at + trailing_zeros w64 (w / 2 ^ (at % 64)))
found words from at w fits le so_far some bits =
    let z = trailing_zeros w64 _ in
    let lowest = bit_at-trailing_zeros w64 _ some (omega (arith, div-le_self w (2 ^ (at % 64)))) in
    let within = rest_bit w _ z fits (omega arith) lowest.1 in
    record {
      start = omega arith;
      found = sym (bits z within) ∙ eq-eqb _ _ lowest.1;
      skipped = λ q low high. elim (cases_lt q at) [
        | inl before ↦ so_far q low before
        | inr after ↦
            let place : at + (q - at) ≡ q = omega arith in
            let bit : (bit_at (w / 2 ^ (at % 64)) (q - at) == 1) ≡ has_bit words q = rw place at (bits (q - at) (omega arith)) in
            sym bit ∙ rw (lowest.2 (q - at) (omega arith)) refl
      ];
    }

-- the lowest of the word's bits from the place on
pub found_ahead : (words : List ℕ) (from at : ℕ) → AreWords words → from ≤ at → NoBits words from at → 0 < get_or words (at / 64) 0 / 2 ^ (at % 64)
    → IsFirstBit words from (at + trailing_zeros w64 (get_or words (at / 64) 0 / 2 ^ (at % 64)))
found_ahead words from at wa le so_far some =
    found _ _ at _ (wa.fit _) le so_far some (λ i low. bit_ahead _ at i low)

-- a whole word has none, and the lowest of one that has some
pub none_in : (words : List ℕ) (from k : ℕ) → NoBits words from (k * 64) → get_or words k 0 ≡ 0 → NoBits words from ((k + 1) * 64)
none_in words from k so_far none =
    let place : k * 64 / 64 ≡ k = omega arith in
    let bit : k * 64 % 64 ≡ 0 = omega arith in
    rw place at (none_ahead words from (k * 64) so_far (rw (place, bit, none) refl))

pub found_in : (words : List ℕ) (from k : ℕ) → AreWords words → from ≤ k * 64 → NoBits words from (k * 64) → 0 < get_or words k 0
    → IsFirstBit words from (k * 64 + trailing_zeros w64 (get_or words k 0))
found_in words from k wa le so_far some =
    let place : k * 64 / 64 ≡ k = omega arith in
    let bit : k * 64 % 64 ≡ 0 = omega arith in
    let all : get_or words k 0 / 1 ≡ get_or words k 0 = omega arith in
    rw (place, bit, all) at (found_ahead words from (k * 64) wa le so_far (rw (place, bit, all) some))

-- past the last word there is none
pub none_left : (words : List ℕ) (from at : ℕ) → AreWords words → 512 ≤ at → NoBits words from at → (q : ℕ) → from ≤ q → has_bit words q ≡ false
none_left words from at wa high so_far q low = elim (cases_lt q at) [
  | inl before ↦ so_far q low before
  | inr after ↦ has_bit_past _ q (omega (arith, wa.count))
]

pub FirstFrom-bits : (words : List ℕ) (from : ℕ) (o : Option ℕ) → FirstBit words from o → FirstFrom (members words) from o
FirstFrom-bits words from (Some q) h = record { start = h.start; found = has-members _ q ∙ h.found; skipped = λ p low high. has-members _ p ∙ h.skipped p low high }
FirstFrom-bits words from None h = λ q low. has-members _ q ∙ h q low

module _ (words gaps : List ℕ) (wa : AreWords words) (count : length gaps ≡ 8) (turned : (k : ℕ) → k < 8 → get_or gaps k 0 ≡ bit_not w64 (get_or words k 0)) where
  gap_or : (q : ℕ) → q < 512 → has_bit gaps q ≡ not (has (members words) q)
  gap_or q low = has_bit-not _ _ q wa low (turned _ (omega arith)) ∙ ap not (sym (has-members _ q))

  no_gap : (q : ℕ) → q < 512 → has_bit gaps q ≡ false → has (members words) q ≡ true
  no_gap q low none = both _ (sym (gap_or q low) ∙ none)
    where
      both : (b : Bool) → not b ≡ false → b ≡ true
      both true h = refl
      both false h = absurd (true≢false h)

  gap_is : (q : ℕ) → q < 512 → has_bit gaps q ≡ true → has (members words) q ≡ false
  gap_is q low is = both _ (sym (gap_or q low) ∙ is)
    where
      both : (b : Bool) → not b ≡ true → b ≡ false
      both true h = absurd (true≢false (sym h))
      both false h = refl

  gap_small : (q : ℕ) → has_bit gaps q ≡ true → q < 512
  gap_small q is = elim (cases_lt q 512) [
    | inl low ↦ low
    | inr high ↦ absurd (true≢false (sym is ∙ has_bit_past _ q (omega arith)))
  ]

  -- a gap after a category of the label
  pub later : (first gap : ℕ) → has (members words) first ≡ true → IsFirstBit gaps first gap → first < gap
  later first gap one h =
      let start = h.start in
      elim (cases_lt first gap) [
        | inl lt ↦ lt
        | inr same ↦ let e : gap ≡ first = omega arith in absurd (true≢false (sym one ∙ ap (has (members _)) (sym e) ∙ gap_is _ (gap_small _ h.found) h.found))
      ]

  -- the run that a category is in ends before the first gap, or with the last category
  pub runs_to_gap : (first gap : ℕ) → has (members words) first ≡ true → IsFirstBit gaps first gap → RunsTo (members words) first (gap - 1)
  runs_to_gap first gap one h =
      let small = gap_small _ h.found in
      let after = later _ _ one h in
      let next : gap - 1 + 1 ≡ gap = omega arith in
      record {
        order = omega arith;
        inside = λ q low high. no_gap q (omega arith) (h.skipped q low (omega arith));
        small = omega arith;
        end = rw next (gap_is _ small h.found);
      }

  pub runs_to_end : (first : ℕ) → has (members words) first ≡ true → ((q : ℕ) → first ≤ q → has_bit gaps q ≡ false) → RunsTo (members words) first 511
  runs_to_end first one none =
      let small = (members-IsLabel _ wa).below first one in
      record {
        order = omega arith;
        inside = λ q low high. no_gap q (omega arith) (none q low);
        small = omega arith;
        end = has-members _ _ ∙ has_bit_past _ _ (omega (arith, wa.count));
      }
