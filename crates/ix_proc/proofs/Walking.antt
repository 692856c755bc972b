-- What is left of a chain from one of its links on.
use Rattle.std.proofs.Common.{◌≡◌, ◌≢◌, ◌<◌, ◌≤◌, ◌+◌, ◌==◌, ℕ, zero, suc, Bool, true, false, List, [], ◌∷◌, length, Option, Some, None, if◌then◌else◌, refl}
use Rattle.std.{proofs.{Common.{slice_get, sym, ap, subst, ◌∙◌, arith, inl, inr}, lemmas.Bool.{Decides.eqb_tells, cases_lt, le-ltb}}, specs.List.find}
use Rattle.ix_links.{specs.Chains.{Chains, times, chain_of}, proofs.Running.times_skip}
use Rattle.ix_proc.specs.{Slots.{lookup, is_child_record, AreSlots}, Kin.{linked, AreKin, IsWalk}, declared.slot.{Slot.Slot, Record.Record}}
use Rattle.ix_proc.proofs.{Linked.{links, times_same, linked_few}, Hanging.link_once}

abbrev pub rest_from : Option ℕ → List ℕ → List ℕ
rest_from None xs = []
rest_from (Some i) [] = []
rest_from (Some i) (x ∷ xs) = if x == i then x ∷ xs else rest_from (Some i) xs

-- each link stands once
abbrev pub Once : List ℕ → Type 0
Once xs = (i : ℕ) → times i xs ≤ 1

once_less : (x : ℕ) (xs : List ℕ) → Once (x ∷ xs) → Once xs
once_less x xs once i = omega (arith, once i, times_skip i x xs)

there_times : (xs : List ℕ) (m i : ℕ) → slice_get xs m ≡ Some i → 1 ≤ times i xs
there_times [] m i is = absurd (cc is)
there_times (x ∷ xs) zero i is = omega (arith, times_same x i xs (let same : Some x ≡ Some i = is in cc))
there_times (x ∷ xs) (suc m) i is = omega (arith, there_times xs m i is, times_skip i x xs)

other_than : (x : ℕ) (xs : List ℕ) (m i : ℕ) → Once (x ∷ xs) → slice_get xs m ≡ Some i → x ≢ i
other_than x xs m i once is same = omega (arith, once i, times_same x i xs same, there_times xs m i is)

skip : (x : ℕ) (xs : List ℕ) (m : ℕ) → Once (x ∷ xs) → rest_from (slice_get xs m) (x ∷ xs) ≡ rest_from (slice_get xs m) xs
skip x xs m once = go _ refl
  where
    go : (o : Option ℕ) → slice_get xs m ≡ o → rest_from o (x ∷ xs) ≡ rest_from o xs
    go None e = refl
    go (Some i) e = elim (eqb_tells x i) [
      | inl h ↦ absurd (other_than x xs m i once e h.1)
      | inr h ↦ rw h.0 refl
    ]

pub rest_first : (xs : List ℕ) → rest_from (slice_get xs 0) xs ≡ xs
rest_first [] = refl
rest_first (x ∷ xs) = elim (eqb_tells x x) [ inl h ↦ rw h.0 refl | inr h ↦ absurd (h.1 refl) ]

pub rest_next : (xs : List ℕ) (m i : ℕ) → Once xs → slice_get xs m ≡ Some i → rest_from (Some i) xs ≡ i ∷ rest_from (slice_get xs (m + 1)) xs
rest_next [] m i once is = absurd (cc is)
rest_next (x ∷ xs) zero i once is =
    let equal = is in
    let same : x ≡ i = cc in
    elim (eqb_tells x i) [
      | inl h ↦ rw h.0 (ap (λ y. y ∷ xs) same ∙ ap (λ ys. i ∷ ys) (sym (skip x xs 0 once ∙ rest_first xs)))
      | inr h ↦ absurd (h.1 same)
    ]
rest_next (x ∷ xs) (suc m) i once is = elim (eqb_tells x i) [
  | inl h ↦ absurd (other_than x xs m i once is h.1)
  | inr h ↦ rw h.0 (rest_next xs m i (once_less x xs once) is ∙ ap (λ ys. i ∷ ys) (sym (skip x xs _ once)) ∙ (let step : suc (m + 1) ≡ suc m + 1 =
      omega arith in ap (λ p. i ∷ rest_from (slice_get (x ∷ xs) p) (x ∷ xs)) step))
]

-- the links of a chain of records are a walk
module _ (t : List Slot) (rs : List Record) (n limit : ℕ) (k : Chains) (are : AreSlots t rs n) (kin : AreKin t rs k limit) (fit : length rs ≡ limit) where
  held_low : (P : Record → Bool) (place i : ℕ) → slice_get (linked P t rs) place ≡ Some i → i < limit
  held_low P place i is = elim (cases_lt i limit) [
    | inl low ↦ low
    | inr past ↦ absurd (let none : times i k.free + times i (links t) ≡ 0 = kin.whole i ∙ rw (le-ltb i limit past) refl in
        omega (arith, none, there_times (linked P t rs) place i is, linked_few P t rs i))
  ]

  pub chain_walk : (p : ℕ) (s : Slot) → lookup t p ≡ Some s → IsWalk (chain_of s.link k) (length rs)
  chain_walk p s found = subst (λ xs. IsWalk xs (length rs)) (sym (kin.children p s found)) (record {
    once = λ i. omega (arith, linked_few (is_child_record p) t rs i, link_once t rs n limit k are kin fit i);
    low = λ place i is. omega (arith, fit, held_low (is_child_record p) place i is);
  })

-- ---- the search along a walk
module _ (E : ℕ → Bool) (xs : List ℕ) (once : Once xs) where
  pub found_here : (m i : ℕ) → slice_get xs m ≡ Some i → find E xs ≡ find E (rest_from (Some i) xs) → E i ≡ true → Some i ≡ find E xs
  found_here m i is before here = sym (before ∙ ap (find E) (rest_next xs m i once is) ∙ ap (λ b. if b then Some i else find E (rest_from (slice_get xs (m + 1)) xs)) here)

  pub found_later : (m i : ℕ) → slice_get xs m ≡ Some i → find E xs ≡ find E (rest_from (Some i) xs) → E i ≡ false → find E xs ≡ find E (rest_from (slice_get xs (m + 1)) xs)
  found_later m i is before fails = before ∙ ap (find E) (rest_next xs m i once is) ∙ ap (λ b. if b then Some i else find E (rest_from (slice_get xs (m + 1)) xs)) fails

  pub less_left : (m i : ℕ) → slice_get xs m ≡ Some i → length (rest_from (slice_get xs (m + 1)) xs) < length (rest_from (Some i) xs)
  less_left m i is = omega (arith, ap length (rest_next xs m i once is))
