-- Lanes by their seats, before and after an answer.
use Rattle.std.proofs.Common.{◌≡◌, ℕ, ◌≤◌, ◌<◌, List, length, Option, Some, None, refl, sym, ap, ◌∙◌, inl, inr, slice_get, slice_set}
use Rattle.std.proofs.lemmas.{List.{get_or-set_same, get_or-set_other, length-set}, Option.{slice_get_within, slice_get_cases, slice_get-get_or, slice_get_past}}
use Rattle.ix_judging.specs.{Plan.Plan, Lanes.State, Runs.{asks, asks_in, entered, lanes_after, moved}}

-- ---- items of a list
pub get-set_same : {X : Type 0} (xs : List X) (i : ℕ) (x : X) → i < length xs → slice_get (slice_set xs i x) i ≡ Some x
get-set_same xs i x within =
    slice_get-get_or _ i x (rw length-set within) ∙ ap (λ y. Some y) (get_or-set_same xs i x x within)

pub get-set_other : {X : Type 0} (xs : List X) (i j : ℕ) (x : X) → (j ≡ i → ⊥) → slice_get (slice_set xs i x) j ≡ slice_get xs j
get-set_other xs i j x apart = elim (slice_get_cases xs j).1 [
  | inl there ↦ slice_get-get_or _ j there.0 (rw length-set there.1)
      ∙ ap (λ y. Some y) (get_or-set_other xs i j x there.0 apart ∙ there.3) ∙ sym there.2
  | inr past ↦ slice_get_past _ j (rw length-set past.0) ∙ sym past.1
]

module _ {W E A L T : Type 0} (p : Plan W E A L T) where
  -- ---- what lanes ask for
  -- a lane that asks for a call
  pub asking_lane : (lanes : List L) (k : ℕ) (e : E) → asks p lanes k ≡ Some e
      → (l : L) × (slice_get lanes k ≡ Some l) × (p.first k l ≡ Some e)
  asking_lane lanes k e = go _ refl
    where
      go : (o : Option L) → slice_get lanes k ≡ o → asks_in p k o ≡ Some e → (l : L) × (slice_get lanes k ≡ Some l) × (p.first k l ≡ Some e)
      go None there is = cc is
      go (Some l) there is = (l, there, is)

  pub asks-lane : (lanes : List L) (k : ℕ) (l : L) → slice_get lanes k ≡ Some l → asks p lanes k ≡ p.first k l
  asks-lane lanes k l there = ap (asks_in p k) there

  pub asks_within : (lanes : List L) (k : ℕ) (e : E) → asks p lanes k ≡ Some e → k < length lanes
  asks_within lanes k e is = let found = asking_lane _ k e is in slice_get_within lanes k found.0 found.1

  pub none_past : (lanes : List L) (k : ℕ) → length lanes ≤ k → asks p lanes k ≡ None
  none_past lanes k past = ap (asks_in p k) (slice_get_past lanes k past)

  -- ---- lanes after an answer
  pub moved-lane : (lanes : List L) (k : ℕ) (a : A) (l : L) → slice_get lanes k ≡ Some l
      → lanes_after p lanes k a ≡ slice_set lanes k (p.goes k l a)
  moved-lane lanes k a l there = ap (moved p lanes k a) there

  pub after_same : (lanes : List L) (k : ℕ) (a : A) (l : L) → slice_get lanes k ≡ Some l
      → slice_get (lanes_after p lanes k a) k ≡ Some (p.goes k l a)
  after_same lanes k a l there =
      ap (λ ls. slice_get ls k) (moved-lane _ k a l there) ∙ get-set_same _ k _ (slice_get_within lanes k l there)

  pub after_other : (lanes : List L) (k j : ℕ) (a : A) → (j ≡ k → ⊥) → slice_get (lanes_after p lanes k a) j ≡ slice_get lanes j
  after_other lanes k j a apart = go _
    where
      go : (o : Option L) → slice_get (moved p lanes k a o) j ≡ slice_get lanes j
      go None = refl
      go (Some l) = get-set_other _ k j _ apart

  pub length-after : (lanes : List L) (k : ℕ) (a : A) → length (lanes_after p lanes k a) ≡ length lanes
  length-after lanes k a = go _
    where
      go : (o : Option L) → length (moved p lanes k a o) ≡ length lanes
      go None = refl
      go (Some l) = length-set lanes k _

  pub length-entered : (at : State W L) (e : E) → length (entered p at e).lanes ≡ length at.lanes
  length-entered at e = length-after _ _ _

  -- the others ask for what they asked for
  pub asks-other : (at : State W L) (e : E) (j : ℕ) → (j ≡ p.seat e → ⊥) → asks p (entered p at e).lanes j ≡ asks p at.lanes j
  asks-other at e j apart = ap (asks_in p j) (after_other _ _ j _ apart)

  -- the lane itself goes on
  pub asks-same : (at : State W L) (e : E) (l : L) → slice_get at.lanes (p.seat e) ≡ Some l
      → asks p (entered p at e).lanes (p.seat e) ≡ p.first (p.seat e) (p.goes (p.seat e) l (p.answer at.world at.place e))
  asks-same at e l there = ap (asks_in p (p.seat e)) (after_same _ _ _ l there)
