-- Bytes and numbers as pairs of digits.
use Rattle.std.proofs.Common.{◌≡◌, ℕ, suc, ◌+◌, ◌*◌, ◌/◌, ◌%◌, ◌<◌, ◌≤◌, ◌^◌, List, [], ◌∷◌, ◌++◌, length, take, drop, refl, sym, ap, ◌∙◌, arith, append_assoc}
use Rattle.std.proofs.Math.{ListN.{set, length-set}, Seq.take-suc-set}
use Rattle.std.proofs.lemmas.{List.take-append-drop, Fmt.{decimal_digit, decimal_step, length-decimal-le}, Grind.flat_map-append}
use Rattle.std.specs.Fmt.{decimal}
use Rattle.ix_text.specs.Spellings.{hex_pair}
use Rattle.ix_report.specs.Hex.{hex}

-- two stores, one after the other
pub take_two : (xs : List ℕ) (n a b : ℕ) → n + 1 < length xs → take (n + 2) (set (set xs n a) (n + 1) b) ≡ take n xs ++ a ∷ b ∷ []
take_two xs n a b h =
    let one : n + 1 ≡ suc n = omega arith in
    let two : n + 2 ≡ suc (suc n) = omega arith in
    rw (one, two, take-suc-set (set xs n a) (suc n) b (omega (arith, length-set {A = ℕ})), take-suc-set xs n a (omega arith), append_assoc) refl

-- the first bytes, and the others
pub parts_hex : (bytes : List ℕ) (n : ℕ) → hex (take n bytes) ++ hex (drop n bytes) ≡ hex bytes
parts_hex bytes n = sym (flat_map-append hex_pair (take n bytes) (drop n bytes)) ∙ ap hex (take-append-drop n bytes)

-- two digits a byte
pub length_hex : (bytes : List ℕ) → length (hex bytes) ≡ 2 * length bytes
length_hex [] = refl
length_hex (b ∷ bytes) = let more = length_hex bytes in omega arith

-- a number of two digits
pub decimal_two : (n : ℕ) → 10 ≤ n → n < 100 → decimal n ≡ (48 + n / 10) ∷ (48 + n % 10) ∷ []
decimal_two n h l = decimal_step n h (omega arith) ∙ ap (λ ds. ds ++ (48 + n % 10) ∷ []) (decimal_digit (n / 10) (omega arith))

-- a number of 64 bits has at most 20 digits
pub decimal_fits : (n : ℕ) → n < 2 ^ 64 → length (decimal n) ≤ 20
decimal_fits n h = length-decimal-le 20 n (omega arith) (omega arith) h

-- a number of 32 bits has at most 10 digits
pub decimal_short : (n : ℕ) → n < 2 ^ 32 → length (decimal n) ≤ 10
decimal_short n h = length-decimal-le 10 n (omega arith) (omega arith) (omega arith)
