-- A list, as it is gone through by index.
use Rattle.std.proofs.Common.{◌≡◌, ◌≢◌, unwrap_or, slice_index_or, ℕ, ◌+◌, ◌-◌, ◌<◌, ◌≤◌, ◌==◌, List, [], ◌∷◌, length, drop, set, Option, Some, None, refl, sym, ap, ◌∙◌}
use Rattle.std.proofs.Common.{arith, subst, slice_get, add-one, false, inl, inr, ⊎_elim, if◌then◌else◌, get_or-set_other, length-set}
use Rattle.std.specs.Prelude.{IfSome}
use Rattle.std.proofs.{Math.Seq.drop-cons, lemmas.{Bool.Decides.eqb_tells, Grind.get_or-set_at, List.drop_all}}
use Rattle.std.proofs.lemmas.Option.{slice_get_within, slice_get_cases, slice_get-get_or, get_or_from_slice_get, unwrap_or-slice_get}

-- the item at an index, and those after it
pub rest_is : {A : Type 0} (xs : List A) (i : ℕ) (x : A) → slice_get xs i ≡ Some x → drop i xs ≡ x ∷ drop (i + 1) xs
rest_is xs i x h =
    let within : i < length xs = slice_get_within xs i x h in
    rw (add-one, drop-cons xs i x) (rw (get_or_from_slice_get xs i x x h) refl)

-- past the end nothing is left
pub none_left : {A : Type 0} (xs : List A) (i : ℕ) → slice_get xs i ≡ None → drop i xs ≡ []
none_left xs i h = elim (slice_get_cases xs i).1 [
  | inl there ↦ let e : None ≡ Some there.0 = sym h ∙ there.2 in cc
  | inr past ↦ drop_all i xs past.0
]

-- within a list there is an item
pub is_there : {A : Type 0} (xs : List A) (i : ℕ) → i < length xs → slice_get xs i ≡ None → ⊥
is_there xs i within none = elim (slice_get_cases xs i).1 [
  | inl there ↦ let e : None ≡ Some there.0 = sym none ∙ there.2 in cc
  | inr past ↦ absurd (omega (arith, past.0, within))
]

-- an item that is counted from 1
pub counted_from_one : {A : Type 0} (xs : List A) (i : ℕ) → (if i + 1 == 0 then None else slice_get xs (i + 1 - 1)) ≡ slice_get xs i
counted_from_one xs i =
    let same : i + 1 - 1 ≡ i = omega arith in
    let some : (i + 1 == 0) ≡ false = grind arith in
    rw (same, some) refl

-- a number that is below one bound is below a greater one
pub if_some_below : (o : Option ℕ) (n m : ℕ) → n ≤ m → IfSome o (λ s. s < n) → IfSome o (λ s. s < m)
if_some_below None n m h k = tt
if_some_below (Some s) n m h k = omega (arith, h, k)

-- an item that isn't there
pub or_default : {A : Type 0} (xs : List A) (i : ℕ) (d : A) → slice_get xs i ≡ None → d ≡ slice_index_or xs i d
or_default xs i d none = sym (ap (λ o. unwrap_or o d) none) ∙ unwrap_or-slice_get xs i d

-- what holds of each item, where one is replaced
pub each_set : {A : Type 0} (P : ℕ → A → Type 0) (xs : List A) (k : ℕ) (y : A) → k < length xs → P k y
    → ((i : ℕ) (x : A) → i ≢ k → slice_get xs i ≡ Some x → P i x) → (i : ℕ) (x : A) → slice_get (set xs k y) i ≡ Some x → P i x
each_set P xs k y low new others i x at = ⊎_elim (λ same. here same.1) (λ apart. elsewhere apart.1) (eqb_tells i k)
  where
    here : i ≡ k → P i x
    here same =
        let is : y ≡ x = sym (get_or-set_at xs k i y y same low) ∙ get_or_from_slice_get (set xs k y) i x y at in
        subst (P i) is (subst (λ j. P j y) (sym same) new)

    elsewhere : i ≢ k → P i x
    elsewhere apart =
        let within : i < length xs = omega (arith, slice_get_within (set xs k y) i x at, length-set xs k y) in
        let is : slice_index_or xs i y ≡ x = sym (get_or-set_other xs k i y y apart) ∙ get_or_from_slice_get (set xs k y) i x y at in
        others i x apart (slice_get-get_or xs i y within ∙ ap Some is)
