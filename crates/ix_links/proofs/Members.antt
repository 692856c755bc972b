-- Whether an index stands in a list, a list from which one was taken, and a search among them.
use Rattle.std.proofs.Common.{◌≡◌, ◌≤◌, ◌==◌, ◌||◌, not, ℕ, zero, suc, Bool, true, false, List, [], ◌∷◌, filter, find, Some, None, refl, sym, ap, ◌∙◌, arith, inl, inr, slice_get}
use Rattle.std.{specs.List.list_any, proofs.{lemmas.{Bool.{eqb-true, eq-eqb, ne_eqb, Decides.eqb_tells}, Option.same_Some}, Math.Bool.or-true}}
use Rattle.ix_links.specs.Chains.{times, without}

-- whether an index stands in a list
abbrev pub member : ℕ → List ℕ → Bool
member i xs = list_any (λ j. j == i) xs

-- a list from which an index was taken
abbrev pub dropped : ℕ → List ℕ → List ℕ
dropped i xs = filter (λ j. not (j == i)) xs

pub member-dropped_same : (i : ℕ) (xs : List ℕ) → member i (dropped i xs) ≡ false
member-dropped_same i [] = refl
member-dropped_same i (x ∷ xs) = go (x == i) refl (member-dropped_same i xs)
  where
    go : (b : Bool) → (x == i) ≡ b → member i (dropped i xs) ≡ false → member i (dropped i (x ∷ xs)) ≡ false
    go true is rest = rw is rest
    go false is rest = rw is (rw is rest)

pub member-dropped_other : (i k : ℕ) (xs : List ℕ) → (k ≡ i → ⊥) → member k (dropped i xs) ≡ member k xs
member-dropped_other i k [] other = refl
member-dropped_other i k (x ∷ xs) other = go (x == i) refl (member-dropped_other i k xs other)
  where
    go : (b : Bool) → (x == i) ≡ b → member k (dropped i xs) ≡ member k xs → member k (dropped i (x ∷ xs)) ≡ member k (x ∷ xs)
    go true is rest = rw is (rest ∙ rw (ne_eqb x k (λ e. other (sym e ∙ eqb-true x i is))) refl)
    go false is rest = rw is (ap (λ b. (x == k) || b) rest)

-- a member stands at a place
pub place_of : (i : ℕ) (xs : List ℕ) → member i xs ≡ true → (n : ℕ) × (slice_get xs n ≡ Some i)
place_of i [] h = absurd (cc h)
place_of i (x ∷ xs) h = elim (eqb_tells x i) [
  | inl same ↦ (0, ap Some same.1)
  | inr other ↦ (let rest = place_of i xs (rw other.0 at h) in (suc rest.0, rest.1))
]

pub member_at : (i n : ℕ) (xs : List ℕ) → slice_get xs n ≡ Some i → member i xs ≡ true
member_at i n [] h = absurd (cc h)
member_at i zero (x ∷ xs) h = rw (same_Some x i h, eq-eqb i i refl) refl
member_at i (suc n) (x ∷ xs) h = rw (member_at i n xs h) (or-true (x == i))

-- taking the first place of an index takes all of them, where it stands once
dropped_none : (i : ℕ) (xs : List ℕ) → times i xs ≡ 0 → dropped i xs ≡ xs
dropped_none i [] none = refl
dropped_none i (x ∷ xs) none = elim (eqb_tells x i) [
  | inl same ↦ (let one = rw same.0 at none in absurd (omega arith))
  | inr other ↦ (let rest = rw other.0 at none in rw other.0 (ap (λ ys. x ∷ ys) (dropped_none i xs (omega arith))))
]

pub without_once : (i : ℕ) (xs : List ℕ) → times i xs ≤ 1 → without i xs ≡ dropped i xs
without_once i [] few = refl
without_once i (x ∷ xs) few = elim (eqb_tells x i) [
  | inl same ↦ (let one = rw same.0 at few in rw same.0 (sym (dropped_none i xs (omega arith))))
  | inr other ↦ (let rest = rw other.0 at few in rw other.0 (ap (λ ys. x ∷ ys) (without_once i xs (omega arith))))
]

-- what a search finds passes its test, and where it finds none no member does
pub passes : (p : ℕ → Bool) (xs : List ℕ) (i : ℕ) → find p xs ≡ Some i → p i ≡ true
passes p [] i h = absurd (cc h)
passes p (x ∷ xs) i h = go (p x) refl (passes p xs i)
  where
    go : (b : Bool) → p x ≡ b → (find p xs ≡ Some i → p i ≡ true) → p i ≡ true
    go true is rest = ap p (sym (same_Some x i (rw is at h))) ∙ is
    go false is rest = rest (rw is at h)

pub none_found : (p : ℕ → Bool) (xs : List ℕ) (j : ℕ) → find p xs ≡ None → member j xs ≡ true → p j ≡ false
none_found p [] j h there = absurd (cc there)
none_found p (x ∷ xs) j h there = go (p x) refl (x == j) refl (λ g t. none_found p xs j g t)
  where
    go : (b : Bool) → p x ≡ b → (s : Bool) → (x == j) ≡ s → (find p xs ≡ None → member j xs ≡ true → p j ≡ false) → p j ≡ false
    go true is s same rest = absurd (cc (rw is at h))
    go false is true same rest = ap p (sym (eqb-true x j same)) ∙ is
    go false is false same rest = rest (rw is at h) (rw same at there)
