-- Tests of bytes, and of what a word begins with.
use Rattle.std.specs.Prelude.{ℕ, ◌==◌, Bool, true, false, List, [], ◌∷◌}
use Rattle.ix_model.specs.opening.Valid.{is_within}

-- a small letter
abbrev pub is_letter : ℕ → Bool
is_letter b = is_within 97 122 b

-- a decimal digit
abbrev pub is_digit : ℕ → Bool
is_digit b = is_within 48 57 b

-- whether there is none
abbrev pub is_empty : {A : Type 0} → List A → Bool
is_empty [] = true
is_empty (x ∷ xs) = false

-- whether the first byte is this one
abbrev pub begins : ℕ → List ℕ → Bool
begins byte [] = false
begins byte (b ∷ text) = b == byte

-- whether the first byte passes the test
abbrev pub begins_with : (ℕ → Bool) → List ℕ → Bool
begins_with test [] = false
begins_with test (b ∷ word) = test b
