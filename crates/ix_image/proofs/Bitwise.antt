-- How the code takes a label from its bytes: bit by bit, and byte by byte.
use Rattle.std.proofs.Common.{◌≡◌, ℕ, ◌+◌, ◌-◌, ◌*◌, ◌/◌, ◌%◌, ◌<◌, ◌≤◌, ◌==◌, ltb, leb, Bool, true, false, ◌&&◌, ◌||◌, List, length, get_or, refl, sym, ◌∙◌, ap, arith, inl, inr}
use Rattle.std.{specs.Int.bit_at, proofs.lemmas.{Bool.{cases_lt, ltb-false, lt-ltb, le-ltb, le-leb, lt-leb, eq-eqb, eqb-true}, Nat.Bits.bit_at-zero}}
use Rattle.ix_label.specs.{Category.{Categories, has, bottom, with}, Members.{same_members, has-bottom, has-with}}
use Rattle.ix_image.{specs.Labelled.{label_in, has_label_bit}, proofs.Labelling.{has-label_in, none_past}}

-- ---- bit by bit
-- the categories of a label, and those of the first bits of a byte
abbrev pub with_bits : Categories → ℕ → ℕ → ℕ → ℕ → Bool
with_bits label first byte bit q = has label q || (leb first q && ltb q (first + bit) && bit_at byte (q - first) == 1)

none_yet : (first byte q : ℕ) → (leb first q && ltb q (first + 0) && bit_at byte (q - first) == 1) ≡ false
none_yet first byte q = elim (cases_lt q first) [
  | inl low ↦ rw (lt-leb) refl
  | inr high ↦ rw (le-ltb q (first + 0) (omega arith)) (go _)
]
  where
    go : (b : Bool) → (b && false && bit_at byte (q - first) == 1) ≡ false
    go true = refl
    go false = refl

or_nothing : (a b : Bool) → b ≡ false → a ≡ (a || b)
or_nothing true b e = refl
or_nothing false b e = sym e

pub no_bits : (label : Categories) (first byte q : ℕ) → has label q ≡ with_bits label first byte 0 q
no_bits label first byte q = or_nothing _ _ (none_yet _ _ q)

-- what one bit more adds at the place of its category, and elsewhere
in_bits : (first byte bit q : ℕ) → Bool
in_bits first byte bit q = leb first q && ltb q (first + bit) && bit_at byte (q - first) == 1

more_here : (first byte bit : ℕ) → in_bits first byte (bit + 1) (first + bit) ≡ (bit_at byte bit == 1)
unfolding in_bits
more_here first byte bit =
    let here : (first + bit) - first ≡ bit = omega arith in
    rw (le-leb first (first + bit) (omega arith), lt-ltb (first + bit) (first + (bit + 1)) (omega arith), here) refl

more_elsewhere : (first byte bit q : ℕ) → (q == first + bit) ≡ false → in_bits first byte (bit + 1) q ≡ in_bits first byte bit q
unfolding in_bits
more_elsewhere first byte bit q other = ap (λ b. leb first q && b && bit_at byte (q - first) == 1) (same _ refl other)
  where
    same : (b : Bool) → (q == first + bit) ≡ b → b ≡ false → ltb q (first + (bit + 1)) ≡ ltb q (first + bit)
    same true e h = absurd cc
    same false e h = elim (cases_lt q (first + bit)) [
      | inl low ↦ rw (lt-ltb q (first + (bit + 1)) (omega arith), lt-ltb q (first + bit) low) refl
      | inr high ↦ let apart : q ≡ first + bit → ⊥ = λ same. absurd (let t = eq-eqb q (first + bit) same in cc) in
          rw (le-ltb q (first + (bit + 1)) (omega (arith, apart)), le-ltb q (first + bit) high) refl
    ]

shift_or : (a b c : Bool) → (b || (a || c)) ≡ (a || (b || c))
shift_or true true c = refl
shift_or true false c = refl
shift_or false true c = refl
shift_or false false c = refl

-- with a bit that is 1
pub bit_set : (label more : Categories) (first byte bit : ℕ) → bit_at byte bit ≡ 1 → ((q : ℕ) → has more q ≡ with_bits label first byte bit q)
    → (q : ℕ) → has (with more (first + bit)) q ≡ with_bits label first byte (bit + 1) q
unfolding in_bits
bit_set label more first byte bit one so_far q = has-with _ _ q ∙ ap (λ b. (q == first + bit) || b) (so_far q) ∙ go _ refl
  where
    go : (b : Bool) → (q == first + bit) ≡ b → (b || with_bits label first byte bit q) ≡ with_bits label first byte (bit + 1) q
    go true here =
        or_true _ _ (ap (in_bits _ _ _) (eqb-true q _ here) ∙ more_here first byte _ ∙ rw one refl)
      where
        or_true : (a b : Bool) → b ≡ true → true ≡ (a || b)
        or_true true b e = refl
        or_true false b e = sym e
    go false other = ap (λ b. has label q || b) (sym (more_elsewhere _ _ _ q other))

-- with one that isn't
pub bit_unset : (label more : Categories) (first byte bit : ℕ) → (bit_at byte bit == 1) ≡ false → ((q : ℕ) → has more q ≡ with_bits label first byte bit q)
    → (q : ℕ) → has more q ≡ with_bits label first byte (bit + 1) q
unfolding in_bits
bit_unset label more first byte bit none so_far q = so_far q ∙ ap (λ b. has label q || b) (sym (go (q == first + bit) refl))
  where
    go : (b : Bool) → (q == first + bit) ≡ b → in_bits first byte (bit + 1) q ≡ in_bits first byte bit q
    go true here =
        let at = eqb-true q _ here in
        let new = ap (in_bits _ _ _) at ∙ more_here _ _ _ ∙ none in
        let old : in_bits first byte bit q ≡ false = rw (le-ltb q (first + bit) (omega arith)) (both _) in
        new ∙ sym old
      where
        both : (b : Bool) → (b && false && bit_at byte (q - first) == 1) ≡ false
        both true = refl
        both false = refl
    go false other = more_elsewhere _ _ _ q other

-- ---- byte by byte
-- the categories of the first bytes
abbrev pub bits_below : List ℕ → ℕ → ℕ → Bool
bits_below bytes i q = ltb q (8 * i) && has_label_bit bytes q

pub nothing_below : (bytes : List ℕ) (q : ℕ) → has bottom q ≡ bits_below bytes 0 q
nothing_below bytes q = has-bottom q ∙ sym (rw (le-ltb q (8 * 0) (omega arith)) refl)

-- all 64 bytes
pub all_below : (bytes : List ℕ) (label : Categories) → length bytes ≡ 64 → ((q : ℕ) → has label q ≡ bits_below bytes 64 q) → label ≡ label_in bytes
all_below bytes label long is = same_members _ _ (λ q. is q ∙ go q _ refl ∙ sym (has-label_in _ q long))
  where
    go : (q : ℕ) (b : Bool) → ltb q (8 * 64) ≡ b → (b && has_label_bit bytes q) ≡ has_label_bit bytes q
    go q true e = refl
    go q false e = let high = ltb-false q _ e in sym (none_past _ q (omega arith))

-- one byte more
byte_here : (bytes : List ℕ) (i q : ℕ) → 8 * i ≤ q → q < 8 * i + 8 → has_label_bit bytes q ≡ (bit_at (get_or bytes i 0) (q - 8 * i) == 1)
byte_here bytes i q from below =
    let place : q / 8 ≡ i = omega arith in
    let bit : q % 8 ≡ q - 8 * i = omega arith in
    rw (place, bit) refl

in_more : (bytes : List ℕ) (i q : ℕ) → (bits_below bytes i q || in_bits (8 * i) (get_or bytes i 0) 8 q) ≡ bits_below bytes (i + 1) q
unfolding in_bits
in_more bytes i q = elim (cases_lt q _) [
  | inl low ↦ rw (lt-ltb q (8 * i) low, lt-ltb q (8 * (i + 1)) (omega arith), lt-leb) (or_false _)
  | inr from ↦ elim (cases_lt q _) [
    | inl below ↦ rw (le-ltb q (8 * i) from, le-leb (8 * i) q from, lt-ltb q (8 * i + 8) below, lt-ltb q (8 * (i + 1)) (omega arith)) (sym (byte_here _ i q from below))
    | inr past ↦ rw (le-ltb, le-leb, le-ltb q (8 * i + 8) past, le-ltb q (8 * (i + 1)) (omega arith)) refl
  ]
]
  where
    or_false : (b : Bool) → (b || false) ≡ b
    or_false true = refl
    or_false false = refl

pub byte_set : (bytes : List ℕ) (label more : Categories) (i : ℕ) → ((q : ℕ) → has label q ≡ bits_below bytes i q) → ((q : ℕ) → has more q ≡ with_bits label (8 * i) (get_or bytes i 0) 8 q)
    → (q : ℕ) → has more q ≡ bits_below bytes (i + 1) q
unfolding in_bits
byte_set bytes label more i so_far is q = is q ∙ ap (λ b. b || in_bits (8 * i) (get_or bytes i 0) 8 q) (so_far q) ∙ in_more _ i q

pub byte_unset : (bytes : List ℕ) (label : Categories) (i : ℕ) → get_or bytes i 0 ≡ 0 → ((q : ℕ) → has label q ≡ bits_below bytes i q) → (q : ℕ) → has label q ≡ bits_below bytes (i + 1) q
unfolding in_bits
byte_unset bytes label i zeros so_far q = so_far q ∙ or_nothing _ _ nothing ∙ in_more _ i q
  where
    all : (a b : Bool) → (a && b && 0 == 1) ≡ false
    all true true = refl
    all true false = refl
    all false b = refl

    nothing : in_bits (8 * i) (get_or bytes i 0) 8 q ≡ false
    nothing = rw (zeros, bit_at-zero) (all (leb _ q) _)
