-- What a put leaves at each number, where a test over a table passes, and sums over tables.
use Rattle.std.proofs.Common.{◌≡◌, ◌≢◌, ◌<◌, ◌≤◌, ◌+◌, ℕ, zero, suc, Bool, true, false, true≢false, List, [], ◌∷◌, ◌++◌, map, length, sum, Option, Some, None}
use Rattle.std.{proofs.{Common.{option_map, refl, sym, ap, ◌∙◌, arith, ◌⊎◌, inl, inr}, lemmas.Bool.{or_cases, or_left, or_right, cases_lt, Decides.eqb_tells}}, specs.List.list_any}
use Rattle.std.proofs.lemmas.List.{get_or-set_other, get_or_past, Sums.{sum-map, sum_by-set, sum_by-cons, get_or-le-sum_by}}
use Rattle.ix_model.specs.world.World.{at, put, change}

-- ---- one put
put_here : {A : Type 0} (t : List (Option A)) (n : ℕ) (x : Option A) (y : A) → at (put t n x) n ≡ Some y → x ≡ Some y
put_here [] n x y h = cc
put_here (z ∷ t) zero x y h = h
put_here (z ∷ t) (suc n) x y h = put_here t n x y h

-- what stands after a put was put, or stood before
pub at_put : {A : Type 0} (t : List (Option A)) (n m : ℕ) (x : Option A) (y : A) → at (put t n x) m ≡ Some y → ((m ≡ n) × (x ≡ Some y)) ⊎ ((m ≢ n) × (at t m ≡ Some y))
at_put t n m x y h = elim (eqb_tells m n) [
  | inl same ↦ inl (same.1, put_here t n x y (ap (at (put t n x)) (sym same.1) ∙ h))
  | inr other ↦ inr (other.1, sym (get_or-set_other t n m x None other.1) ∙ h)
]

-- what stands after a push was pushed, or stood before
pub at_push : {A : Type 0} (t : List (Option A)) (x : A) (m : ℕ) (y : A) → at (t ++ Some x ∷ []) m ≡ Some y → ((m ≡ length t) × (x ≡ y)) ⊎ (at t m ≡ Some y)
at_push [] x zero y h = inl (refl, cc)
at_push [] x (suc m) y h = cc
at_push (z ∷ t) x zero y h = inr h
at_push (z ∷ t) x (suc m) y h = elim (at_push t x m y h) [
  | inl new ↦ inl (ap suc new.0, new.1)
  | inr old ↦ inr old
]

-- what stands inside the table
pub in_table : {A : Type 0} (t : List (Option A)) (n : ℕ) (x : A) → at t n ≡ Some x → n < length t
in_table t n x h = elim (cases_lt n _) [
  | inl low ↦ low
  | inr high ↦ let past = get_or_past t n None high in let e = sym past ∙ h in cc
]

-- what stands after a change was changed, or stood before
pub record Changed {A : Type 0} (t : List (Option A)) (n : ℕ) (h : A → A) (m : ℕ) (y : A) : Type 0 where
  pub here : m ≡ n
  pub was : A
  pub is_was : at t n ≡ Some was
  pub same : y ≡ h was

change_here : {A : Type 0} (t : List (Option A)) (n : ℕ) (h : A → A) (m : ℕ) (y : A) (o : Option A) → m ≡ n → at t n ≡ o → option_map h o ≡ Some y → Changed t n h m y
change_here t n h m y None here is k = cc
change_here t n h m y (Some x) here is k = record { here = here; was = x; is_was = is; same = cc }

pub at_change : {A : Type 0} (t : List (Option A)) (n : ℕ) (h : A → A) (m : ℕ) (y : A) → at (change t n h) m ≡ Some y → Changed t n h m y ⊎ ((m ≢ n) × (at t m ≡ Some y))
at_change t n h m y k = elim (at_put t n m _ y k) [
  | inl here ↦ inl (change_here t n h m y _ here.0 refl here.1)
  | inr other ↦ inr other
]

-- nothing stands where nothing was put
pub put_none : {A : Type 0} (t : List (Option A)) (n : ℕ) → at (put t n None) n ≡ None
put_none [] n = refl
put_none (z ∷ t) zero = refl
put_none (z ∷ t) (suc n) = put_none t n

-- ---- tests
module _ {A : Type 0} (p : Option A → Bool) (none : p None ≡ false) where
  pub any_at : (t : List (Option A)) → list_any p t ≡ true → (n : ℕ) × (p (at t n) ≡ true)
  any_at [] h = absurd (true≢false (sym h))
  any_at (x ∷ t) h = elim (or_cases _ _ h) [
    | inl here ↦ (0, here)
    | inr later ↦ let r = any_at t later in (suc r.0, r.1)
  ]

  pub any_by : (t : List (Option A)) (n : ℕ) → p (at t n) ≡ true → list_any p t ≡ true
  any_by [] n h = absurd (true≢false (sym h ∙ none))
  any_by (x ∷ t) zero h = or_left _ _ h
  any_by (x ∷ t) (suc n) h = or_right (p x) (list_any p t) (any_by t n h)

  pub no_any : (t : List (Option A)) → list_any p t ≡ false → (n : ℕ) → p (at t n) ≡ true → ⊥
  no_any t h n k = true≢false (sym (any_by t n k) ∙ h)

-- a test that passes in one table, and so in another
pub any_into : {A : Type 0} (p q : Option A → Bool) → p None ≡ false → q None ≡ false → (t u : List (Option A))
    → ((n : ℕ) → p (at t n) ≡ true → q (at u n) ≡ true) → list_any p t ≡ true → list_any q u ≡ true
any_into p q none_p none_q t u into h = let r = any_at p none_p t h in any_by q none_q u r.0 (into _ r.1)

-- what passes stands
pub passes_some : {A : Type 0} (p : Option A → Bool) → p None ≡ false → (o : Option A) → p o ≡ true → (x : A) × (o ≡ Some x)
passes_some p none None h = absurd (true≢false (sym h ∙ none))
passes_some p none (Some x) h = (x, refl)

-- ---- sums
module _ {A : Type 0} (F : Option A → ℕ) where
  pub sum_put : (t : List (Option A)) (n : ℕ) (y : Option A) → n < length t → sum (map F (put t n y)) + F (at t n) ≡ sum (map F t) + F y
  sum_put t n y low =
      let one = sum-map F (put t n y) in
      let two = sum-map F t in
      omega (arith, one, two, sum_by-set F t n y None low)

  pub sum_at : F None ≡ 0 → (t : List (Option A)) (n : ℕ) → F (at t n) ≤ sum (map F t)
  sum_at none t n = elim (cases_lt n _) [
    | inl low ↦ let one = sum-map F t in omega (arith, one, get_or-le-sum_by F t n None low)
    | inr high ↦ let e = ap F (get_or_past t n None high) ∙ none in omega (arith, e)
  ]

-- a sum of nothings
pub sum_zero : {A : Type 0} (F : Option A → ℕ) (t : List (Option A)) → ((n : ℕ) → F (at t n) ≡ 0) → sum (map F t) ≡ 0
sum_zero F [] none = refl
sum_zero F (x ∷ t) none =
    let first = none 0 in
    let rest = sum_zero F t (λ n. none (suc n)) in
    omega (arith, sum_by-cons (λ (n : ℕ). n) (F x) (map F t), first, rest)
