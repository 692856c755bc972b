-- A label and its 64 bytes give each other back.
use Rattle.std.proofs.Common.{◌≡◌, ℕ, zero, suc, ◌+◌, add-one, ◌*◌, ◌^◌, ◌/◌, ◌%◌, ◌<◌, ◌≤◌, ◌==◌, Bool, true, false, true≢false, List, length, get_or, refl}
use Rattle.std.{proofs.Common.{sym, ◌∙◌, ap, arith, cond, inl, inr}, specs.{List.range_with_len, Ordering.nat_cmp, declared.cmp.Ordering.TheVariants.Equal, Int.bit_at}}
use Rattle.std.{specs.FinSet.{nat_cmp-IsAntisymmetric, contains-retain}, proofs.lemmas.List.{get_or_past, length-map, FromFn.{fill_by_all, length-range_with_len, get_or-map-range_with_len}}}
use Rattle.std.proofs.{lemmas.{Nat.Bits.{bit_at-zero, bit_at-suc, bit_at_lowest}, Bool.cases_lt}, Math.{Nat.pow-suc, Bool.and-false}}
use Rattle.ix_label.specs.{Category.{Categories, IsLabel, has}, Members.{same_members, has-all_below}, Words.from_bits}
use Rattle.ix_image.specs.{Labelled.{label_byte, label_bytes, label_in, has_label_bit}, Laws.AreBytes}

-- ---- bits of a byte
test_bit : (b : ℕ) → b < 2 → cond (b == 1) 1 0 ≡ b
test_bit zero h = refl
test_bit (suc zero) h = refl
test_bit (suc (suc b)) h = absurd (omega arith)

bits_same : (n : ℕ) (f g : ℕ → Bool) → ((i : ℕ) → i < n → f i ≡ g i) → from_bits f n ≡ from_bits g n
unfolding from_bits
bits_same zero f g h = refl
bits_same (suc n) f g h =
    λ i. cond (h 0 (omega arith) i) 1 0 + 2 * bits_same n (λ k. f (k + 1)) _ (λ k below. h _ (omega arith)) i

-- the bits of a number give it back
bits_back : (n w : ℕ) → w < 2 ^ n → from_bits (λ i. bit_at w i == 1) n ≡ w
unfolding from_bits
bits_back zero w h = omega arith
bits_back (suc n) w h =
    let low : cond (bit_at w 0 == 1) 1 0 ≡ w % 2 = rw bit_at_lowest (test_bit _ (omega arith)) in
    let high : from_bits (λ i. bit_at w (i + 1) == 1) n ≡ w / 2 = bits_same n _ _ (λ i _. rw (add-one, bit_at-suc) refl) ∙ bits_back n _ (omega (arith, pow-suc 2 n)) in
    rw (low, high) (omega arith)

-- a number that bits give has these bits
bit_given : (n i : ℕ) (f : ℕ → Bool) → i < n → (bit_at (from_bits f n) i == 1) ≡ f i
unfolding from_bits
bit_given zero i f h = absurd (omega arith)
bit_given (suc n) zero f h = go _ _
  where
    go : (b : Bool) (rest : ℕ) → (bit_at (cond b 1 0 + 2 * rest) 0 == 1) ≡ b
    go true rest = let odd : bit_at (1 + 2 * rest) 0 ≡ 1 = bit_at_lowest _ ∙ omega arith in rw odd refl
    go false rest = let even : bit_at (0 + 2 * rest) 0 ≡ 0 = bit_at_lowest _ ∙ omega arith in rw even refl
bit_given (suc n) (suc i) f h = go _ _ ∙ bit_given n i _ (omega arith) ∙ ap f (add-one i)
  where
    go : (b : Bool) (rest : ℕ) → (bit_at (cond b 1 0 + 2 * rest) (suc i) == 1) ≡ (bit_at rest i == 1)
    go true rest = let half : (1 + 2 * rest) / 2 ≡ rest = omega arith in rw (bit_at-suc, half) refl
    go false rest = let half : (0 + 2 * rest) / 2 ≡ rest = omega arith in rw (bit_at-suc, half) refl

-- ---- a label's bits
tied : (f : ℕ → Bool) (q x : ℕ) → nat_cmp q x ≡ Equal → f x ≡ f q
tied f q x e = ap f (sym (nat_cmp-IsAntisymmetric q x e))

-- no bit stands past the bytes
pub none_past : (bytes : List ℕ) (q : ℕ) → 8 * length bytes ≤ q → has_label_bit bytes q ≡ false
none_past bytes q h = rw (get_or_past bytes (q / 8) 0 (omega arith), bit_at-zero) refl

-- the label of 64 bytes has the categories whose bits are 1
pub has-label_in : (bytes : List ℕ) (q : ℕ) → length bytes ≡ 64 → has (label_in bytes) q ≡ has_label_bit bytes q
unfolding has label_in
has-label_in bytes q long =
    contains-retain _ _ q (tied _ q)
    ∙ elim (cases_lt q 512) [
      | inl h ↦ rw (has-all_below) refl
      | inr h ↦ rw (none_past bytes q (omega arith)) (and-false _)
    ]

pub length-label_bytes : (s : Categories) → length (label_bytes s) ≡ 64
unfolding label_bytes
length-label_bytes s = length-map (range_with_len 0 64) (label_byte s) ∙ length-range_with_len 0 64

-- the byte of eight categories comes back from the label
byte_back : (bytes : List ℕ) (k : ℕ) → length bytes ≡ 64 → AreBytes bytes → k < 64 → label_byte (label_in bytes) k ≡ get_or bytes k 0
byte_back bytes k long fits low =
    bits_same 8 _ _ (λ i below.
    let place : (8 * k + i) / 8 ≡ k = omega arith in
    let bit : (8 * k + i) % 8 ≡ i = omega arith in
    has-label_in _ _ long ∙ rw (place, bit) refl)
    ∙ bits_back 8 _ (fits k)

-- 64 bytes come back from their label
pub bytes_back : (bytes : List ℕ) → length bytes ≡ 64 → AreBytes bytes → label_bytes (label_in bytes) ≡ bytes
unfolding label_bytes
bytes_back bytes long fits = sym (fill_by_all _ bytes 64 0 long (λ k low. sym (byte_back _ k long fits low)))

-- the byte at a place among a label's
pub byte_at_place : (s : Categories) (k : ℕ) → k < 64 → get_or (label_bytes s) k 0 ≡ label_byte s k
unfolding label_bytes
byte_at_place s k low = get_or-map-range_with_len (label_byte s) 0 64 k k 0 low (omega arith)

-- a label comes back from its bytes
pub label_back : (s : Categories) → IsLabel s → label_in (label_bytes s) ≡ s
label_back s is = same_members _ s (λ q. has-label_in _ q (length-label_bytes s) ∙ elim (cases_lt q 512) [
  | inl h ↦
      ap (λ b. bit_at b (q % 8) == 1) (byte_at_place s _ (omega arith)) ∙ bit_given 8 _ _ (omega arith) ∙ ap (has s) (omega arith)
  | inr h ↦ none_past _ q (omega (arith, length-label_bytes s)) ∙ past q h
])
  where
    past : (q : ℕ) → 512 ≤ q → false ≡ has s q
    past q h = go _ refl
      where
        go : (b : Bool) → has s q ≡ b → false ≡ b
        go true e = absurd (omega (arith, is.below q e))
        go false e = refl

-- what 64 bytes give is a label
pub is_label_in : (bytes : List ℕ) → length bytes ≡ 64 → IsLabel (label_in bytes)
is_label_in bytes long = record {
  below = λ q one. elim (cases_lt q 512) [
    | inl low ↦ low
    | inr high ↦ absurd (true≢false (sym one ∙ has-label_in _ q long ∙ none_past _ q (omega arith)))
  ];
}
