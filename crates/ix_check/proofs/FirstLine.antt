-- The first line of a text, by the place of its line feed.
use Rattle.std.proofs.Common.{◌≡◌, ℕ, zero, suc, ◌<◌, ◌==◌, Bool, true, false, List, [], ◌∷◌, length, take, refl, ap, arith, slice_index}
use Rattle.ix_judging.specs.Bytes.{is_empty, is_line, split, with_byte}

-- whether a place of a text has a line feed
abbrev pub HasFeed : List ℕ → ℕ → Type 0
HasFeed text k = (slice_index text k == 10) ≡ true

-- a text up to its first line feed is a line
pub is_first : (text : List ℕ) (i : ℕ) → i < length text → HasFeed text i → ((j : ℕ) → j < i → HasFeed text j → ⊥)
    → is_line (take (suc i) text) ≡ true
is_first [] i within feed none = absurd (omega (arith, within))
is_first (b ∷ text) zero within feed none = rw feed refl
is_first (b ∷ text) (suc i) within feed none =
    rw (not_feed _ (none 0 (omega arith))) (is_first text i (omega (arith, within)) feed (λ j below has. none (suc j) (omega (arith, below)) has))
  where
    not_feed : (t : Bool) → (t ≡ true → ⊥) → t ≡ false
    not_feed true never = absurd (never refl)
    not_feed false never = refl

-- a text without a line feed has no line
pub no_lines : (text : List ℕ) → ((j : ℕ) → j < length text → HasFeed text j → ⊥)
    → split text ≡ record { lines = []; whole = is_empty text }
no_lines [] none = refl
no_lines (b ∷ text) none =
    let rest = no_lines text (λ j below has. none (suc j) (omega (arith, below)) has) in
    rw (not_feed _ (none 0 (omega arith))) (ap (λ t. with_byte b t.lines t.whole) rest)
  where
    not_feed : (t : Bool) → (t ≡ true → ⊥) → t ≡ false
    not_feed true never = absurd (never refl)
    not_feed false never = refl
