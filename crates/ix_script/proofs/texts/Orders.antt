-- The order of two texts where the shorter one is at its end.
use Rattle.std.proofs.Common.{◌≡◌, ℕ, zero, suc, ◌<◌, ◌≤◌, min, List, [], ◌∷◌, length, drop, Ordering, Less, Equal, Greater, refl, arith}
use Rattle.std.specs.{Cmp.{ranked, Lexicographic.slice_cmp}, Ordering.{nat_cmp, MatchOrdering}}

one_less : (m n : ℕ) (r : Ordering) → MatchOrdering r (suc m < suc n) (suc m ≡ suc n) (suc n < suc m) → MatchOrdering r (m < n) (m ≡ n) (n < m)
one_less m n Less h = let l = h in omega arith
one_less m n Equal h = let l = h in omega arith
one_less m n Greater h = let l = h in omega arith

-- the longer text is the greater one
longer : (xs ys : List ℕ) (i : ℕ) (r : Ordering) → min (length xs) (length ys) ≤ i → i ≤ length xs → i ≤ length ys
    → MatchOrdering r (length xs < length ys) (length xs ≡ length ys) (length ys < length xs) → r ≡ slice_cmp nat_cmp (drop i xs) (drop i ys)
longer [] [] zero Less h p q m = let l = m in absurd (omega arith)
longer [] [] zero Equal h p q m = refl
longer [] [] zero Greater h p q m = let l = m in absurd (omega arith)
longer [] (y ∷ ys) zero Less h p q m = refl
longer [] (y ∷ ys) zero Equal h p q m = let l = m in absurd (omega arith)
longer [] (y ∷ ys) zero Greater h p q m = let l = m in absurd (omega arith)
longer (x ∷ xs) [] zero Less h p q m = let l = m in absurd (omega arith)
longer (x ∷ xs) [] zero Equal h p q m = let l = m in absurd (omega arith)
longer (x ∷ xs) [] zero Greater h p q m = refl
longer (x ∷ xs) (y ∷ ys) zero r h p q m = absurd (omega (arith, h))
longer [] ys (suc i) r h p q m = absurd (omega (arith, p))
longer (x ∷ xs) [] (suc i) r h p q m = absurd (omega (arith, q))
longer (x ∷ xs) (y ∷ ys) (suc i) r h p q m = longer xs ys i r (omega (arith, h)) (omega (arith, p)) (omega (arith, q)) (one_less _ _ r m)

pub by_lengths : (xs ys : List ℕ) (i : ℕ) (r : Ordering) → min (length xs) (length ys) ≤ i → i ≤ length xs → i ≤ length ys → r ≡ nat_cmp (length xs) (length ys)
    → r ≡ slice_cmp nat_cmp (drop i xs) (drop i ys)
by_lengths xs ys i r h p q is = longer xs ys i r h p q (ranked _ _ r is)
