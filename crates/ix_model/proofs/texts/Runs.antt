-- Bytes that are said one by one, and behind them a byte so many times.
use Rattle.std.proofs.Common.{◌≡◌, ◌==◌, ℕ, zero, suc, Bool, true, false, nat_eq, ◌&&◌, ◌||◌, List, [], ◌∷◌, ◌++◌, length, replicate, refl, sym, ap, ◌∙◌, inl, inr, arith}
use Rattle.std.proofs.lemmas.Bool.Decides.{eqb_tells}
use Rattle.ix_model.specs.world.Naming.{same_bytes}

and_first : (a b c : Bool) → (a && (b && c)) ≡ ((a && b) && c)
and_first true b c = refl
and_first false b c = refl

-- two texts of one length, each with something behind it
pub same_parts : (a b c d : List ℕ) → length a ≡ length b → same_bytes (a ++ c) (b ++ d) ≡ (same_bytes a b && same_bytes c d)
same_parts [] [] c d even = refl
same_parts [] (y ∷ b) c d even = absurd (omega (arith, even))
same_parts (x ∷ a) [] c d even = absurd (omega (arith, even))
same_parts (x ∷ a) (y ∷ b) c d even =
    ap (λ t. nat_eq x y && t) (same_parts a b c d (omega (arith, even))) ∙ and_first (nat_eq x y) (same_bytes a b) (same_bytes c d)

once_more : (one : Bool) (times : Bool) (none : Bool) → (one && (times && (none || one))) ≡ (times && one)
once_more true true true = refl
once_more true true false = refl
once_more true false none = refl
once_more false true none = refl
once_more false false none = refl

not_zero : (n : ℕ) → (suc n == 0) ≡ false
not_zero n = elim (eqb_tells (suc n) 0) [ inl e ↦ absurd (omega (arith, e.1)) | inr e ↦ e.0 ]

zero_not : (n : ℕ) → (0 == suc n) ≡ false
zero_not n = elim (eqb_tells 0 (suc n)) [ inl e ↦ absurd (omega (arith, e.1)) | inr e ↦ e.0 ]

suc_same : (s t : ℕ) → (suc s == suc t) ≡ (s == t)
suc_same s t = elim (eqb_tells s t) [
  | inl e ↦ elim (eqb_tells (suc s) (suc t)) [ inl f ↦ f.0 ∙ sym e.0 | inr f ↦ absurd (f.1 (ap suc e.1)) ]
  | inr e ↦ elim (eqb_tells (suc s) (suc t)) [ inl f ↦ absurd (e.1 (omega (arith, f.1))) | inr f ↦ f.0 ∙ sym e.0 ]
]

-- a byte so many times, and another
pub same_runs : (s t x y : ℕ) → same_bytes (replicate s x) (replicate t y) ≡ ((s == t) && ((s == 0) || (x == y)))
same_runs zero zero x y = refl
same_runs zero (suc t) x y = ap (λ c. c && true) (sym (zero_not t))
same_runs (suc s) zero x y = ap (λ c. c && ((suc s == 0) || (x == y))) (sym (not_zero s))
same_runs (suc s) (suc t) x y = ap (λ c. nat_eq x y && c) (same_runs s t x y) ∙ once_more (nat_eq x y) (s == t) (s == 0)
    ∙ sym (λ i. suc_same s t i && (not_zero s i || (x == y)))

-- how a comparison of such bytes goes: first what is said, then how many times, then the byte
module _ (a b u v : List ℕ) (s t x y : ℕ) (one : a ++ replicate s x ≡ u) (two : b ++ replicate t y ≡ v) (even : length a ≡ length b) where
  compared : (same_bytes a b && ((s == t) && ((s == 0) || (x == y)))) ≡ same_bytes u v
  compared = ap (λ c. same_bytes a b && c) (sym (same_runs s t x y)) ∙ sym (same_parts a b _ _ even) ∙ (λ i. same_bytes (one i) (two i))

  module _ (test : Bool) (is : test ≡ (same_bytes a b && (s == t))) where
    pub differ : test ≡ false → test ≡ same_bytes u v
    differ false_here = go (same_bytes a b) (s == t) ((s == 0) || (x == y)) (sym is ∙ false_here) ∙ compared
      where
        go : (e n r : Bool) → (e && n) ≡ false → test ≡ (e && (n && r))
        go true true r h = absurd (cc h)
        go true false r h = false_here
        go false n r h = false_here

    pub by_byte : test ≡ true → (s ≡ 0 → ⊥) → (x == y) ≡ same_bytes u v
    by_byte true_here some = go _ _ _ _ (sym is ∙ true_here) none ∙ compared
      where
        none : (s == 0) ≡ false
        none = elim (eqb_tells s 0) [ inl e ↦ absurd (some e.1) | inr e ↦ e.0 ]

        go : (e n z r : Bool) → (e && n) ≡ true → z ≡ false → r ≡ (e && (n && (z || r)))
        go true true true r h k = absurd (cc k)
        go true true false r h k = refl
        go true false z r h k = absurd (cc h)
        go false n z r h k = absurd (cc h)
