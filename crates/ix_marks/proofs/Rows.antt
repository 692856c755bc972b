-- The row of a pid, by what stands at each index.
use Rattle.std.proofs.Common.{◌≡◌, ◌==◌, ◌<◌, ◌⊎◌, ℕ, zero, suc, Bool, true, false, List, [], ◌∷◌, length, Option, Some, None, option_map, refl, sym, ap, ◌∙◌}
use Rattle.std.proofs.Common.{arith, inl, inr, get_or, set}
use Rattle.std.proofs.lemmas.{Bool.{eqb-true, eq-eqb, Decides.eqb_tells}, List.{get_or-set_same, get_or-set_other}, Option.same_Some}
use Rattle.ix_marks.specs.RowIndex.{sits, row_of, pid_at, AreDifferent}

pub sits_is : (pid : ℕ) (x : Option ℕ) → sits pid x ≡ true → x ≡ Some pid
sits_is pid None h = absurd (cc h)
sits_is pid (Some p) h = ap (λ k. Some k) (eqb-true p pid h)

pub is_sits : (pid : ℕ) (x : Option ℕ) → x ≡ Some pid → sits pid x ≡ true
is_sits pid x h = rw h (eq-eqb pid pid refl)

some_within : (xs : List (Option ℕ)) (i p : ℕ) → get_or xs i None ≡ Some p → i < length xs
some_within [] i p h = absurd (cc h)
some_within (x ∷ xs) zero p h = omega arith
some_within (x ∷ xs) (suc i) p h = let rest = some_within xs i p h in omega (arith, rest)

pub within : (xs : List (Option ℕ)) (i p : ℕ) → pid_at xs i ≡ Some p → i < length xs
within xs i p h = some_within xs i p h

unmapped : (o : Option ℕ) (i : ℕ) → option_map suc o ≡ Some i → (j : ℕ) × ((o ≡ Some j) × (i ≡ suc j))
unmapped None i h = absurd (cc h)
unmapped (Some j) i h = (j, (refl, sym (same_Some (suc j) i h)))

-- the pid stands at its row
pub row_at : (p : ℕ) (xs : List (Option ℕ)) (i : ℕ) → row_of p xs ≡ Some i → pid_at xs i ≡ Some p
unfolding row_of
row_at p [] i h = absurd (cc h)
row_at p (x ∷ xs) i h = go (sits p x) refl (row_at p xs)
  where
    go : (b : Bool) → sits p x ≡ b → ((j : ℕ) → row_of p xs ≡ Some j → pid_at xs j ≡ Some p) → pid_at (x ∷ xs) i ≡ Some p
    go true is rest = ap (pid_at (x ∷ xs)) (sym (same_Some 0 i (rw is at h))) ∙ sits_is p x is
    go false is rest = let one = unmapped (row_of p xs) i (rw is at h) in ap (pid_at (x ∷ xs)) one.1.1 ∙ rest one.0 one.1.0

-- a pid without a row stands nowhere
pub row_none : (p : ℕ) (xs : List (Option ℕ)) (i : ℕ) → row_of p xs ≡ None → pid_at xs i ≡ Some p → ⊥
unfolding row_of
row_none p [] i h there = cc there
row_none p (x ∷ xs) i h there = go (sits p x) refl i there (row_none p xs)
  where
    missing : (o : Option ℕ) → option_map suc o ≡ None → o ≡ None
    missing None e = refl
    missing (Some j) e = absurd (cc e)

    go : (b : Bool) → sits p x ≡ b → (k : ℕ) → pid_at (x ∷ xs) k ≡ Some p → ((j : ℕ) → row_of p xs ≡ None → pid_at xs j ≡ Some p → ⊥) → ⊥
    go true is k t rest = cc (rw is at h)
    go false is zero t rest = cc (is, is_sits p x t)
    go false is (suc k) t rest = rest k (missing (row_of p xs) (rw is at h)) t

module _ (xs : List (Option ℕ)) (different : AreDifferent xs) where
  -- a pid that stands at an index has that row, and one that stands nowhere has none
  pub row_is : (p i : ℕ) → pid_at xs i ≡ Some p → row_of p xs ≡ Some i
  row_is p i h = go (row_of p xs) refl
    where
      go : (o : Option ℕ) → row_of p xs ≡ o → row_of p xs ≡ Some i
      go None is = absurd (row_none p xs i is h)
      go (Some j) is = is ∙ ap (λ k. Some k) (different j i p (row_at p xs j is) h)

pub none_is : (p : ℕ) (xs : List (Option ℕ)) → ((i : ℕ) → pid_at xs i ≡ Some p → ⊥) → row_of p xs ≡ None
none_is p xs never = go (row_of p xs) refl
  where
    go : (o : Option ℕ) → row_of p xs ≡ o → row_of p xs ≡ None
    go None is = is
    go (Some j) is = absurd (never j (row_at p xs j is))

-- two pids have no row in common
pub apart : (xs : List (Option ℕ)) (p q i : ℕ) → row_of p xs ≡ Some i → row_of q xs ≡ Some i → p ≡ q
apart xs p q i h k = same_Some p q (sym (row_at p xs i h) ∙ row_at q xs i k)

-- a pid keeps its row where another index is written
module _ (xs : List (Option ℕ)) (i : ℕ) (x : Option ℕ) (low : i < length xs) where
  here : pid_at (set xs i x) i ≡ x
  here = get_or-set_same xs i x None low

  there : (j : ℕ) → (j ≡ i → ⊥) → pid_at (set xs i x) j ≡ pid_at xs j
  there j other = get_or-set_other xs i j x None other

  pub kept_row : AreDifferent (set xs i x) → (q : ℕ) → (pid_at xs i ≡ Some q → ⊥) → (x ≡ Some q → ⊥) → row_of q (set xs i x) ≡ row_of q xs
  kept_row different q was is = go (row_of q xs) refl
    where
      go : (o : Option ℕ) → row_of q xs ≡ o → row_of q (set xs i x) ≡ row_of q xs
      go (Some j) h =
          let at = row_at q xs j h in
          row_is (set xs i x) different q j (there j (λ e. was (ap (pid_at xs) (sym e) ∙ at)) ∙ at) ∙ sym h
      go None h = none_is q (set xs i x) (λ j at. step j at (eqb_tells j i)) ∙ sym h
        where
          step : (j : ℕ) → pid_at (set xs i x) j ≡ Some q → (((j == i) ≡ true) × (j ≡ i)) ⊎ (((j == i) ≡ false) × (j ≡ i → ⊥)) → ⊥
          step j at (inl same) = is (sym here ∙ ap (pid_at (set xs i x)) (sym same.1) ∙ at)
          step j at (inr other) = row_none q xs j h (sym (there j other.1) ∙ at)

  -- a free row becomes a pid's
  pub different_more : (p : ℕ) → x ≡ Some p → row_of p xs ≡ None → AreDifferent xs → AreDifferent (set xs i x)
  different_more p is none old = λ j k q at_j at_k. go j k q at_j at_k (eqb_tells j i) (eqb_tells k i)
    where
      seen : (q : ℕ) → pid_at (set xs i x) i ≡ Some q → p ≡ q
      seen q at = same_Some p q (sym is ∙ sym here ∙ at)

      go : (j k q : ℕ) → pid_at (set xs i x) j ≡ Some q → pid_at (set xs i x) k ≡ Some q → (((j == i) ≡ true) × (j ≡ i)) ⊎ (((j == i) ≡ false) × (j ≡ i → ⊥))
          → (((k == i) ≡ true) × (k ≡ i)) ⊎ (((k == i) ≡ false) × (k ≡ i → ⊥)) → j ≡ k
      go j k q at_j at_k (inl a) (inl b) = a.1 ∙ sym b.1
      go j k q at_j at_k (inl a) (inr b) = absurd (row_none p xs k none (sym (there k b.1) ∙ at_k ∙ ap (λ n. Some n) (sym (seen q (ap (pid_at (set xs i x)) (sym a.1) ∙ at_j)))))
      go j k q at_j at_k (inr a) (inl b) = absurd (row_none p xs j none (sym (there j a.1) ∙ at_j ∙ ap (λ n. Some n) (sym (seen q (ap (pid_at (set xs i x)) (sym b.1) ∙ at_k)))))
      go j k q at_j at_k (inr a) (inr b) = old j k q (sym (there j a.1) ∙ at_j) (sym (there k b.1) ∙ at_k)

  -- a row becomes free
  pub different_fewer : x ≡ None → AreDifferent xs → AreDifferent (set xs i x)
  different_fewer is old = λ j k q at_j at_k. old j k q (stayed j q at_j (eqb_tells j i)) (stayed k q at_k (eqb_tells k i))
    where
      stayed : (j q : ℕ) → pid_at (set xs i x) j ≡ Some q → (((j == i) ≡ true) × (j ≡ i)) ⊎ (((j == i) ≡ false) × (j ≡ i → ⊥)) → pid_at xs j ≡ Some q
      stayed j q at (inl same) = absurd (cc (is, here, ap (pid_at (set xs i x)) same.1, at))
      stayed j q at (inr other) = sym (there j other.1) ∙ at
