-- How the parts of a report begin.
use Rattle.std.proofs.Common.{◌≡◌, ℕ, zero, suc, ◌/◌, ◌%◌, ◌<◌, ◌==◌, Bool, true, false, not, cond, List, [], ◌∷◌, ◌++◌, refl, sym, ap, ◌∙◌, arith}
use Rattle.std.{specs.{List.list_all, Fmt.{decimal, digits, digits_onto, digit_glyph}}, proofs.lemmas.Bool.and_parts}

-- ---- numbers
-- the bytes begin with one that is less than that
abbrev BeginsBelow : ℕ → List ℕ → Type 0
BeginsBelow n [] = ⊥
BeginsBelow n (b ∷ bytes) = b < n

either_below : (n : ℕ) (b : Bool) (xs ys : List ℕ) → BeginsBelow n xs → BeginsBelow n ys → BeginsBelow n (cond b xs ys)
either_below n true xs ys h k = h
either_below n false xs ys h k = k

digit_below : (d : ℕ) → d < 10 → digit_glyph false d < 111
digit_below d h = grind arith

onto_below : (k n : ℕ) (acc : List ℕ) → BeginsBelow 111 acc → BeginsBelow 111 (digits_onto k 10 false n acc)
onto_below zero n acc h = h
onto_below (suc k) n acc h =
    let more : List ℕ = digit_glyph false (n % 10) ∷ acc in
    let here : BeginsBelow 111 more = digit_below (n % 10) (omega arith) in
    either_below 111 (n / 10 == 0) more (digits_onto k 10 false (n / 10) more) here (onto_below k (n / 10) more here)

first_below : (k n : ℕ) → BeginsBelow 111 (digits_onto (suc k) 10 false n [])
first_below k n =
    let more : List ℕ = digit_glyph false (n % 10) ∷ [] in
    let here : BeginsBelow 111 more = digit_below (n % 10) (omega arith) in
    either_below 111 (n / 10 == 0) more (digits_onto k 10 false (n / 10) more) here (onto_below k (n / 10) more here)

-- a number's decimals begin with a digit, which is below the letter o
decimal_below : (n : ℕ) → BeginsBelow 111 (decimal n)
unfolding digits
decimal_below n = first_below 63 n

apart : (text x y : List ℕ) → BeginsBelow 111 text → 111 ∷ x ≡ text ++ y → ⊥
apart [] x y below same = below
apart (b ∷ text) x y below same = let first : 111 ≡ b = cc in absurd (omega (arith, first, below))

-- what begins with the letter o doesn't begin with a number
pub no_number : (n : ℕ) (x y : List ℕ) → 111 ∷ x ≡ decimal n ++ y → ⊥
no_number n x y same = apart (decimal n) x y (decimal_below n) same

-- ---- words
-- none of the bytes is a space
abbrev pub no_space : List ℕ → Bool
no_space text = list_all (λ b. not (b == 32)) text

space_ends : (b : ℕ) (text x y : List ℕ) → no_space (b ∷ text) ≡ true → 32 ∷ x ≡ b ∷ text ++ y → ⊥
space_ends b text x y h same =
    let first : 32 ≡ b = cc in
    let none : no_space (32 ∷ text) ≡ true = ap (λ c. no_space (c ∷ text)) first ∙ h in
    cc

-- words without a space that texts begin with, a space behind each, are the same where the texts are
pub same_word : (v w x y : List ℕ) → no_space v ≡ true → no_space w ≡ true → v ++ 32 ∷ x ≡ w ++ 32 ∷ y → v ≡ w
same_word [] [] x y h k same = refl
same_word [] (c ∷ w) x y h k same = absurd (space_ends c w x (32 ∷ y) k same)
same_word (b ∷ v) [] x y h k same = absurd (space_ends b v y (32 ∷ x) h (sym same))
same_word (b ∷ v) (c ∷ w) x y h k same =
    let first : b ≡ c = cc in
    let rest : v ++ 32 ∷ x ≡ w ++ 32 ∷ y = cc in
    let words = same_word v w x y (and_parts (not (b == 32)) (no_space v) h).1 (and_parts (not (c == 32)) (no_space w) k).1 rest in
    λ i. first i ∷ words i
