-- How a label's bytes are written.
use Rattle.std.proofs.{Common.{◌≡◌, ℕ, zero, suc, ◌+◌, ◌*◌, ◌^◌, ◌%◌, ◌<◌, Bool, true, false, cond, refl, ap, ◌∙◌, add-one, arith}, Math.{Nat.pow-suc, Pow.pow_mono}, lemmas.Nat.pow_below}
use Rattle.ix_label.specs.Words.{from_bits}

-- a bit more
pub from_bits_more : (n : ℕ) (f : ℕ → Bool) → from_bits f (suc n) ≡ from_bits f n + cond (f n) (2 ^ n) 0
unfolding from_bits
from_bits_more zero f = go _
  where
    go : (b : Bool) → cond {A = ℕ} b 1 0 + 2 * 0 ≡ 0 + cond b (2 ^ 0) 0
    go true = refl
    go false = refl
from_bits_more (suc n) f =
    ap (λ r. cond (f 0) 1 0 + 2 * r) (from_bits_more n (λ i. f _))
    ∙ ap (λ k. cond (f 0) 1 0 + 2 * (from_bits (λ i. f (i + 1)) n + cond (f k) (2 ^ n) 0)) (add-one n) ∙ go _ _ (f _)
  where
    go : (a r : ℕ) (b : Bool) → a + 2 * (r + cond b (2 ^ n) 0) ≡ (a + 2 * r) + cond b (2 ^ suc n) 0
    go a r true = omega (arith, pow-suc 2 n)
    go a r false = omega arith

pub from_bits_few : (n : ℕ) (f : ℕ → Bool) → from_bits f n < 2 ^ n
unfolding from_bits
from_bits_few zero f = omega arith
from_bits_few (suc n) f = go _ (from_bits_few n _)
  where
    go : (b : Bool) → from_bits (λ i. f (i + 1)) n < 2 ^ n → cond {A = ℕ} b 1 0 + 2 * from_bits (λ i. f (i + 1)) n < 2 ^ suc n
    go true few = omega (arith, pow-suc 2 n, few)
    go false few = omega (arith, pow-suc 2 n, few)

pub from_bits_none : (f : ℕ → Bool) → from_bits f 0 ≡ 0
unfolding from_bits
from_bits_none f = refl

-- the code's bit
pub one_bit : (n : ℕ) → n < 8 → 1 * 2 ^ n % 256 ≡ 2 ^ n
one_bit n low = omega (arith, pow_below n 8 low)

pub sum_fits : (n byte : ℕ) → n < 8 → byte < 2 ^ n → byte + 2 ^ n < 256
sum_fits n byte low few =
    omega (arith, pow-suc 2 n, few, pow_mono low)
