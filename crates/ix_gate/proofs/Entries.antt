-- The entries of one number, in a history and in its beginnings.
use Rattle.std.proofs.Common.{◌≡◌, ◌≢◌, ℕ, zero, suc, ◌+◌, ◌≤◌, ◌⊎◌, List, [], ◌∷◌, ◌++◌, length, refl, ap, sym, ◌∙◌, ⊎_elim, inl, inr, arith, length-append}
use Rattle.std.proofs.Common.{eqb, cond, ne_eqb, eq-eqb}
use Rattle.std.{specs.Prelude.Contains, proofs.lemmas.List.{append-nil, nil_from_length, Elements.filter-append}}
use mathlib.Core.Logic.{dite}
use mathlib.Core.List.{IsPrefix}
use native.Mathlib.Decide.{ℕ_discrete}
use Rattle.ix_gate.{specs.History.{entries_of, Grows, longer}, proofs.Prefixes.{prefix_shorter, by_length, filter-between}}

module _ {A : Type 0} where
  pub contains-nil : (x : A) → Contains [] x → ⊥
  contains-nil x h = let lt = h.1 in omega arith

  pub contains-cons : (y : A) (ys : List A) (x : A) → Contains (y ∷ ys) x → (y ≡ x) ⊎ Contains ys x
  contains-cons y ys x (zero, lt, e) = inl e
  contains-cons y ys x (suc k, lt, e) = inr (k, omega arith, e)

module _ {E : Type 0} (seat : E → ℕ) where
  -- an entry's own number counts it, and no other does
  pub entries_of-own : (n : ℕ) (e : E) (es : List E) → seat e ≡ n → entries_of seat n (e ∷ es) ≡ e ∷ entries_of seat n es
  entries_of-own n e es is = ap (λ b. cond b (e ∷ entries_of seat n es) (entries_of seat n es)) (eq-eqb (seat e) n is)

  entries_of-other : (n : ℕ) (e : E) (es : List E) → seat e ≢ n → entries_of seat n (e ∷ es) ≡ entries_of seat n es
  entries_of-other n e es other = ap (λ b. cond b (e ∷ entries_of seat n es) (entries_of seat n es)) (ne_eqb (seat e) n other)

  -- what stands behind a beginning that has all of a number's entries has none of them
  pub entries_of-rest : (n : ℕ) (xs ys : List E) (p : IsPrefix xs ys) → entries_of seat n xs ≡ entries_of seat n ys → entries_of seat n (p.0) ≡ []
  entries_of-rest n xs ys p same =
      let a : entries_of seat n ys ≡ entries_of seat n xs ++ entries_of seat n (p.0) = ap (entries_of seat n) (sym p.1) ∙ filter-append (λ y. eqb (seat y) n) xs p.0 in
      let b : length (entries_of seat n ys) ≡ length (entries_of seat n xs) + length (entries_of seat n (p.0)) = ap length a ∙ length-append (entries_of seat n xs) (entries_of seat n (p.0)) in
      let c : length (entries_of seat n xs) ≡ length (entries_of seat n ys) = ap length same in
      nil_from_length (entries_of seat n (p.0)) (omega arith)

  -- a history without entries of a number has no beginning with one
  pub entries_of-front : (n : ℕ) (xs ys : List E) → IsPrefix xs ys → entries_of seat n ys ≡ [] → entries_of seat n xs ≡ []
  entries_of-front n xs ys p nothing =
      let a : entries_of seat n ys ≡ entries_of seat n xs ++ entries_of seat n (p.0) = ap (entries_of seat n) (sym p.1) ∙ filter-append (λ y. eqb (seat y) n) xs p.0 in
      nil_from_length (entries_of seat n xs) (omega (arith, ap length (sym nothing ∙ a), length-append (entries_of seat n xs) (entries_of seat n (p.0))))

  -- a history in which no number has an entry is empty
  pub nil_from_entries : (es : List E) → ((n : ℕ) → entries_of seat n es ≡ []) → es ≡ []
  nil_from_entries [] all = refl
  nil_from_entries (e ∷ es) all = absurd (cc (sym (entries_of-own (seat e) e es refl) ∙ all (seat e)))

  -- the number of an entry has an entry
  pub entries_of-has : (e : E) (es : List E) → Contains es e → entries_of seat (seat e) es ≡ [] → ⊥
  entries_of-has e [] h nothing = contains-nil e h
  entries_of-has e (x ∷ xs) h nothing = dite (ℕ_discrete (seat x) (seat e))
      (λ is. cc (sym (entries_of-own (seat e) x xs is) ∙ nothing))
      (λ other. ⊎_elim (λ (same : x ≡ e). other (ap seat same)) (λ (h : Contains xs e). entries_of-has e xs h (sym (entries_of-other (seat e) x xs other) ∙ nothing)) (contains-cons x xs e h))

  -- what a turn adds stands behind, and is of its seat alone
  pub grows_prefix : (n : ℕ) (taken h : List E) → Grows seat n taken h → IsPrefix taken h
  grows_prefix n taken h (inl e) = ([], append-nil taken ∙ sym e)
  grows_prefix n taken h (inr (x, e, is)) = (x ∷ [], sym e)

  pub grows_length : (n : ℕ) (taken h : List E) → Grows seat n taken h → length h ≤ length taken + 1
  grows_length n taken h (inl e) = omega (arith, ap length e)
  grows_length n taken h (inr (x, e, is)) = omega (arith, ap length e, length-append taken (x ∷ []))

  pub grows_other : (n k : ℕ) (taken h : List E) → Grows seat n taken h → k ≢ n → entries_of seat k h ≡ entries_of seat k taken
  grows_other n k taken h (inl e) other = ap (entries_of seat k) e
  grows_other n k taken h (inr (x, e, is)) other = ap (entries_of seat k) e ∙ (filter-append (λ y. eqb (seat y) k) taken (x ∷ [])
      ∙ (ap (λ es. entries_of seat k taken ++ es) (entries_of-other k x [] (λ z. other (sym z ∙ is))) ∙ append-nil (entries_of seat k taken)))

  -- what a number has in a history, and in one of two beginnings, it has in the longer of them
  pub entries_of-longer : (n : ℕ) (es xs ys p : List E) → IsPrefix xs p → IsPrefix ys p → entries_of seat n p ≡ es
      → (entries_of seat n xs ≡ es) ⊎ (entries_of seat n ys ≡ es) → entries_of seat n (longer xs ys) ≡ es
  entries_of-longer n es xs ys p xp yp all (inl known) = by_length xs ys (λ l _. entries_of seat n l ≡ es)
      (λ le. filter-between (λ e. eqb (seat e) n) xs ys p (prefix_shorter xs ys p xp yp le) yp (known ∙ sym all) ∙ all)
      (λ _. known)
  entries_of-longer n es xs ys p xp yp all (inr known) = by_length xs ys (λ l _. entries_of seat n l ≡ es)
      (λ _. known)
      (λ le. filter-between (λ e. eqb (seat e) n) ys xs p (prefix_shorter ys xs p yp xp le) xp (known ∙ sym all) ∙ all)
