-- Eight words of 64 bits, and the label whose categories are the bits that are 1.
use Rattle.std.proofs.Common.{◌≡◌, ℕ, zero, suc, ◌+◌, ◌*◌, add-one, ◌^◌, ◌/◌, ◌%◌, ◌<◌, ◌≤◌, ◌==◌, Bool, false, List, length, map, slice_index}
use Rattle.std.proofs.Common.{get_or, refl, sym, ◌∙◌, ap, arith, cond, inl, inr, if◌then◌else◌}
use Rattle.std.specs.List.{range_with_len}
use Rattle.std.specs.Ordering.{nat_cmp}
use Rattle.std.specs.declared.cmp.Ordering.TheVariants.{Equal}
use Rattle.std.specs.Int.{bit_at}
use Rattle.std.specs.FinSet as set
use Rattle.std.specs.FinSet.{nat_cmp-IsAntisymmetric, contains-retain}
use Rattle.std.proofs.lemmas.List.{get_or_past}
use Rattle.std.proofs.lemmas.List.FromFn.{fill_by_all}
use Rattle.std.proofs.lemmas.Nat.Bits.{bit_at-zero, bit_at-suc, bit_at_lowest}
use Rattle.std.proofs.lemmas.Bool.{cases_lt}
use Rattle.std.proofs.Math.Nat.{pow-suc}
use Rattle.std.proofs.Math.Bool.{and-false}
use Rattle.ix_label.specs.Category.{Categories, has, all_below}
use Rattle.ix_label.specs.Members.{has-all_below}

-- whether bit q of the words is 1, from the lowest bit of the first word on
unfoldable pub has_bit : List ℕ → ℕ → Bool
has_bit words q = bit_at (slice_index words (q / 64)) (q % 64) == 1

-- the categories whose bits are 1
unfoldable pub members : List ℕ → Categories
members words = set.retain (all_below (64 * length words)) (has_bit words)

-- eight words of 64 bits
pub record AreWords (words : List ℕ) : Type 0 where
  pub count : length words ≡ 8
  pub fit : (k : ℕ) → slice_index words k < 2 ^ 64

-- the number whose lowest n bits the test gives
unfoldable pub from_bits : (ℕ → Bool) → ℕ → ℕ
from_bits f zero = 0
from_bits f (suc n) = (if f 0 then 1 else 0) + 2 * from_bits (λ i. f (i + 1)) n

-- the word whose lowest bit is that category, and all eight words
unfoldable pub word_of : Categories → ℕ → ℕ
word_of s first = from_bits (λ i. has s (first + i)) 64

unfoldable pub words_of : Categories → List ℕ
words_of s = map (λ k. word_of s (64 * k)) (range_with_len 0 8)

pub has_bit_past : (words : List ℕ) (q : ℕ) → 64 * length words ≤ q → has_bit words q ≡ false
unfolding has_bit
has_bit_past words q h = rw (get_or_past words (q / 64) 0 (omega arith), bit_at-zero) refl

tied : (f : ℕ → Bool) (q x : ℕ) → nat_cmp q x ≡ Equal → f x ≡ f q
tied f q x e = ap f (sym (nat_cmp-IsAntisymmetric q x e))

-- the key to the words: a category is in their label exactly where its bit is 1
pub has-members : (words : List ℕ) (q : ℕ) → has (members words) q ≡ has_bit words q
unfolding has members
has-members words q =
    contains-retain (all_below (64 * length words)) (has_bit words) q (tied (has_bit words) q)
    ∙ elim (cases_lt q (64 * length words)) [
      | inl h ↦ rw (has-all_below _ q h) refl
      | inr h ↦ rw (has_bit_past words q h) (and-false _)
    ]

-- the bits of a number give it back
test_bit : (b : ℕ) → b < 2 → cond (b == 1) 1 0 ≡ b
test_bit zero h = refl
test_bit (suc zero) h = refl
test_bit (suc (suc b)) h = absurd (omega arith)

from_bits_same : (n : ℕ) (f g : ℕ → Bool) → ((i : ℕ) → i < n → f i ≡ g i) → from_bits f n ≡ from_bits g n
unfolding from_bits
from_bits_same zero f g h = refl
from_bits_same (suc n) f g h =
    let first : 0 < suc n = omega arith in
    λ i. cond (h 0 first i) 1 0 + 2 * from_bits_same n (λ k. f (k + 1)) (λ k. g (k + 1)) (λ k below. h (k + 1) (omega arith)) i

from_bits-bit_at : (n w : ℕ) → w < 2 ^ n → from_bits (λ i. bit_at w i == 1) n ≡ w
unfolding from_bits
from_bits-bit_at zero w h = omega arith
from_bits-bit_at (suc n) w h =
    let low : cond (bit_at w 0 == 1) 1 0 ≡ w % 2 = rw bit_at_lowest (test_bit (w % 2) (omega arith)) in
    let half : w / 2 < 2 ^ n = omega (arith, pow-suc 2 n) in
    let high : from_bits (λ i. bit_at w (i + 1) == 1) n ≡ w / 2 = from_bits_same n _ (λ i. bit_at (w / 2) i == 1) (λ i _. rw (add-one, bit_at-suc) refl) ∙ from_bits-bit_at n (w / 2) half in
    rw (low, high) (omega arith)

word_of-members : (words : List ℕ) (k : ℕ) → AreWords words → k < 8 → word_of (members words) (64 * k) ≡ get_or words k 0
unfolding word_of has_bit
word_of-members words k h low =
    from_bits_same 64 _ (λ i. bit_at (get_or words k 0) i == 1) (λ i below.
    let place : (64 * k + i) / 64 ≡ k = omega arith in
    let bit : (64 * k + i) % 64 ≡ i = omega arith in
    has-members words (64 * k + i) ∙ rw (place, bit) refl)
    ∙ from_bits-bit_at 64 _ (h.fit k)

-- a label's words come back from its categories
pub words_of-members : (words : List ℕ) → AreWords words → words_of (members words) ≡ words
unfolding words_of
words_of-members words h = sym (fill_by_all (λ k. word_of (members words) (64 * k)) words 8 0 h.count (λ k low. sym (word_of-members words k h low)))
