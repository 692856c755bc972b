-- The bits of a set without those of another.
use Rattle.std.proofs.Common.{◌≡◌, ℕ, ◌+◌, ◌-◌, ◌<◌, ◌^◌, ◌%◌, min, bit_and, arith, w8, sym, ap, ◌∙◌}
use Rattle.std.{specs.Int.{Bits.bit_xor, bit_at}, proofs.lemmas.Nat.{and_le_l, xor_lt, Bits.{bit_at_and, bit_at_xor, bit_at_not, same_from_bits_below}}}
use Rattle.ix_model.specs.{world.Privs.without, declared.privs.PrivSet.PrivSet}

bit_below : (n i : ℕ) → bit_at n i < 2
bit_below n i = omega arith

one_bit : (a b : ℕ) → a < 2 → b < 2 → min a (1 - b) ≡ (a + min a b) % 2
one_bit a b h k = omega arith

and_not : (a b : ℕ) → a < 2 ^ 8 → b < 2 ^ 8 → bit_and a (2 ^ 8 - 1 - b) ≡ bit_xor a (bit_and a b)
and_not a b h k = same_from_bits_below 8 _ _ (omega (arith, and_le_l a (2 ^ 8 - 1 - b))) (xor_lt 8 a (bit_and a b) h (omega (arith, and_le_l a b))) (λ i low.
    bit_at_and a (2 ^ 8 - 1 - b) i ∙ ap (min (bit_at a i)) (bit_at_not w8 b i k low)
    ∙ one_bit (bit_at a i) (bit_at b i) (bit_below a i) (bit_below b i)
    ∙ sym (bit_at_xor a (bit_and a b) i ∙ ap (λ m. (bit_at a i + m) % 2) (bit_at_and a b i)))

-- what the code takes away is what the rule takes away
pub difference : (r a b : PrivSet) → a.0 < 2 ^ 8 → b.0 < 2 ^ 8 → r.0 ≡ bit_and a.0 (2 ^ 8 - 1 - b.0) → r ≡ without a b
unfolding without
difference r a b h k e = let make : ℕ → PrivSet = λ n. record { 0 = n } in ap make (e ∙ and_not a.0 b.0 h k)
