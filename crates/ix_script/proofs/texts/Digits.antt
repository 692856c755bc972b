-- The value of digits.
use Rattle.std.proofs.Common.{◌≡◌, ℕ, ◌+◌, ◌*◌, ◌-◌, ◌≤◌, ◌<◌, List, [], ◌∷◌, arith}
use Rattle.ix_script.specs.texts.Words.{value_from, value}

-- digits behind a number make it no less
pub value_no_less : (n : ℕ) (digits : List ℕ) → n ≤ value_from n digits
value_no_less n [] = omega arith
value_no_less n (d ∷ digits) = omega (arith, value_no_less (n * 10 + (d - 48)) digits)

-- digits that begin with too great a number stand for one
pub too_great : (word : List ℕ) (n : ℕ) (digits : List ℕ) → value_from n digits ≡ value_from 0 word → 4294967295 < n → 4294967295 < value word
unfolding value
too_great word n digits same more = omega (arith, value_no_less n digits)
