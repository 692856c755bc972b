-- The places at which an object is let down, and the first of them behind a place.
use Rattle.std.proofs.Common.{◌≡◌, ◌≢◌, ◌≤◌, ◌<◌, ◌+◌, ◌-◌, ◌*◌, ◌^◌, ◌==◌, ◌&&◌, cond, is_some, nat_lt, ℕ, suc, Bool, true, false, true≢false, List, [], ◌∷◌, ◌++◌, length, Some, None}
use Rattle.std.proofs.{Common.{if◌then◌else◌, refl, sym, ap, ◌∙◌, arith, inl, inr}, lemmas.Bool.{eq-eqb, lt-ltb, ltb-false, ltb-true, ne_eqb, Decides.eqb_tells}}
use Rattle.std.specs.{BTreeMap.get, Ordering.{is_gt, nat_cmp}, declared.cmp.Ordering.TheVariants.{Less, Equal, Greater}}
use Rattle.ix_model.specs.{history.{Events.Event, History.History, Step.{step_of, run}}, opening.Opening.opening_world, world.World.World}
use Rattle.ix_flow.specs.{Lowerings.{falls, first_fall}, Tracking.{AreFalls, falls_at}, declared.falls.Falls.Falls}

-- ---- one place
at_first : (w : World) (place : ℕ) (e : Event) (events : List Event) (o that : ℕ) → that ≡ place → falls_at w place (e ∷ events) o that ≡ falls w.frame (step_of w place e).world.frame o
unfolding falls_at
at_first w place e events o that same = ap (λ b. if b then falls w.frame (step_of w place e).world.frame o else falls_at (step_of w place e).world (suc place) events o that) (eq-eqb that place same)

at_later : (w : World) (place : ℕ) (e : Event) (events : List Event) (o that : ℕ) → that ≢ place → falls_at w place (e ∷ events) o that ≡ falls_at (step_of w place e).world (suc place) events o that
unfolding falls_at
at_later w place e events o that apart = ap (λ b. if b then falls w.frame (step_of w place e).world.frame o else falls_at (step_of w place e).world (suc place) events o that) (ne_eqb that place apart)

apart_from : (a b : ℕ) → a < b → a ≢ b
apart_from a b low = λ same. omega (arith, low, same)

apart_over : (a b : ℕ) → b < a → a ≢ b
apart_over a b low = λ same. omega (arith, low, same)

-- before the first of the entries there is none, nor behind the last
pub none_early : (w : World) (place : ℕ) (events : List Event) (o that : ℕ) → that < place → falls_at w place events o that ≡ false
unfolding falls_at
none_early w place [] o that low = refl
none_early w place (e ∷ events) o that low = at_later w _ e _ o _ (apart_from _ _ low) ∙ none_early (step_of w place e).world (suc place) events o _ (omega (arith, low))

pub none_late : (w : World) (place : ℕ) (events : List Event) (o that : ℕ) → length events + place ≤ that → falls_at w place events o that ≡ false
unfolding falls_at
none_late w place [] o that high = refl
none_late w place (e ∷ events) o that high = at_later w place e events o that (apart_over _ _ (omega (arith, high)))
    ∙ none_late (step_of w place e).world (suc place) events o _ (omega (arith, high))

-- so it stands at one of their places
is_late : (w : World) (place : ℕ) (events : List Event) (o that : ℕ) → falls_at w place events o that ≡ true → place ≤ that
is_late w place events o that is = go (nat_lt that place) refl
  where
    go : (b : Bool) → nat_lt that place ≡ b → place ≤ that
    go true low = absurd (true≢false (sym is ∙ none_early w _ _ o _ (ltb-true that place low)))
    go false high = omega (arith, ltb-false that place high)

-- ---- one entry more
pub falls_push : (w : World) (place : ℕ) (events : List Event) (e : Event) (o that : ℕ) → that ≢ length events + place → falls_at w place (events ++ e ∷ []) o that ≡ falls_at w place events o that
unfolding falls_at
falls_push w place [] e o that apart = at_later w _ e [] o _ (λ same. apart (omega (arith, same)))
falls_push w place (x ∷ events) e o that apart = elim (eqb_tells that place) [
  | inl same ↦ at_first w _ x _ o _ same.1 ∙ sym (at_first w _ x _ o _ same.1)
  | inr other ↦
      at_later w _ x _ o _ other.1
      ∙ falls_push (step_of w place x).world _ events e o _ (λ same. apart (omega (arith, same)))
      ∙ sym (at_later w _ x _ o _ other.1)
]

pub falls_last : (w : World) (place : ℕ) (events : List Event) (e : Event) (o that : ℕ) → that ≡ length events + place
    → falls_at w place (events ++ e ∷ []) o that ≡ falls (run w place events).frame (step_of (run w place events) that e).world.frame o
falls_last w place [] e o that same =
    let is : that ≡ place = omega (arith, same) in
    at_first w _ e [] o _ is ∙ ap (λ n. falls w.frame (step_of w n e).world.frame o) (sym is)
falls_last w place (x ∷ events) e o that same =
    at_later w place x (events ++ e ∷ []) o that (apart_over _ _ (omega (arith, same)))
    ∙ falls_last (step_of w place x).world (suc place) events e o _ (omega (arith, same))

-- ---- the first one
not_first : (w : World) (place : ℕ) (e : Event) (events : List Event) (o after : ℕ) → (nat_lt after place && falls w.frame (step_of w place e).world.frame o) ≡ false
    → first_fall w place (e ∷ events) o after ≡ first_fall (step_of w place e).world (suc place) events o after
unfolding first_fall
not_first w place e events o after isnt = ap (λ b. if b then Some place else first_fall (step_of w place e).world (suc place) events o after) isnt

is_first : (w : World) (place : ℕ) (e : Event) (events : List Event) (o after : ℕ) → (nat_lt after place && falls w.frame (step_of w place e).world.frame o) ≡ true
    → first_fall w place (e ∷ events) o after ≡ Some place
unfolding first_fall
is_first w place e events o after here = ap (λ b. if b then Some place else first_fall (step_of w place e).world (suc place) events o after) here

passes_not : (after place : ℕ) (b : Bool) → (after < place → b ≡ false) → (nat_lt after place && b) ≡ false
passes_not after place b isnt = go _ refl
  where
    go : (c : Bool) → nat_lt after place ≡ c → (c && b) ≡ false
    go true low = isnt (ltb-true after place low)
    go false high = refl

-- none behind a place
pub none_first : (w : World) (place : ℕ) (events : List Event) (o after : ℕ) → ((q : ℕ) → after < q → falls_at w place events o q ≡ false) → first_fall w place events o after ≡ None
unfolding first_fall
none_first w place [] o after none = refl
none_first w place (e ∷ events) o after none =
    not_first w place e events o after (passes_not after place _ (λ low. sym (at_first w place e events o place refl) ∙ none place low))
    ∙ none_first (step_of w place e).world (suc place) events o after (λ q low. elim (eqb_tells q place) [
      | inl same ↦ none_early (step_of w place e).world (suc place) events o q (omega (arith, same.1))
      | inr other ↦ sym (at_later w place e events o q other.1) ∙ none q low
    ])

-- the one before which there is none behind a place
pub first_is : (w : World) (place : ℕ) (events : List Event) (o after p : ℕ) → falls_at w place events o p ≡ true → after < p → ((q : ℕ) → after < q → q < p → falls_at w place events o q ≡ false)
    → first_fall w place events o after ≡ Some p
unfolding falls_at
first_is w place [] o after p there low none = absurd (true≢false (sym there))
first_is w place (e ∷ events) o after p there low none = elim (eqb_tells p place) [
  | inl same ↦
      let here : p ≡ place = same.1 in
      let falls_here : falls w.frame (step_of w place e).world.frame o ≡ true = sym (at_first w place e events o p here) ∙ there in
      is_first w place e events o after (ap (λ b. b && falls w.frame (step_of w place e).world.frame o) (lt-ltb after place (omega (arith, low, here))) ∙ falls_here) ∙ ap Some (sym here)
  | inr other ↦
      let later : falls_at (step_of w place e).world (suc place) events o p ≡ true = sym (at_later w place e events o p other.1) ∙ there in
      not_first w place e events o after (passes_not after place _ (λ early. sym (at_first w place e events o place refl)
      ∙ none place early (omega (arith, is_late (step_of w place e).world (suc place) events o p later))))
      ∙ first_is (step_of w place e).world (suc place) events o after p later low (λ q early before. elim (eqb_tells q place) [
        | inl same ↦ none_early (step_of w place e).world (suc place) events o q (omega (arith, same.1))
        | inr apart ↦ sym (at_later w place e events o q apart.1) ∙ none q early before
      ])
]

-- ---- order
pub not_above : (a b : ℕ) → a ≤ b → is_gt (nat_cmp a b) ≡ false
not_above a b low = go (nat_lt a b) (a == b) refl refl
  where
    go : (x y : Bool) → nat_lt a b ≡ x → (a == b) ≡ y → is_gt (nat_cmp a b) ≡ false
    go true y below is = ap (λ t. is_gt (cond t Less (cond (a == b) Equal Greater))) below
    go false true high is = ap (λ t. is_gt (cond t Less (cond (a == b) Equal Greater))) high ∙ ap (λ t. is_gt (cond t Equal Greater)) is
    go false false high is = let same : a ≡ b = omega (arith, low, ltb-false a b high) in absurd (true≢false (sym (eq-eqb a b same) ∙ is))

-- ---- what is noted
module _ (f : Falls) (h : History) (are : AreFalls f h) (o after : ℕ) where
  abbrev key : ℕ → ℕ
  key place = o * 4294967296 + place

  abbrev there : ℕ → Bool
  there k = is_some (get nat_cmp f.places k)

  falls_there : (place : ℕ) → place < 2 ^ 32 → falls_at (opening_world h.config) 1 h.events o place ≡ there (key place)
  falls_there place low = sym (are.noted o place low)

  -- the least key that stands for a later place is that of the first
  pub first_noted : (found : ℕ) → key (after + 1) ≤ found → found ≤ key 4294967295 → there found ≡ true → ((k : ℕ) → key (after + 1) ≤ k → k ≤ key 4294967295 → there k ≡ true → found ≤ k)
      → Some (found - key 0) ≡ first_fall (opening_world h.config) 1 h.events o after
  first_noted found low high is least =
      let place = found - key 0 in
      let small : place < 2 ^ 32 = omega (arith, high) in
      let here : key place ≡ found = omega (arith, low) in
      sym (first_is _ 1 _ o _ _ (falls_there _ small ∙ ap there here ∙ is) (omega (arith, low))
      (λ q later before. falls_there q (omega (arith, before, small)) ∙ not_noted q _ refl later before small here))
    where
      not_noted : (q : ℕ) (b : Bool) → there (key q) ≡ b → after < q → q < found - key 0 → found - key 0 < 2 ^ 32 → key (found - key 0) ≡ found → b ≡ false
      not_noted q false isnt later before small here = refl
      not_noted q true is_there later before small here = absurd (omega (arith, least _ (omega (arith, later)) (omega (arith, before, small)) is_there, before, here))

  -- where no key stands for a later place there is none
  pub none_noted : ((k : ℕ) → key (after + 1) ≤ k → k ≤ key 4294967295 → there k ≡ false) → None ≡ first_fall (opening_world h.config) 1 h.events o after
  none_noted none = sym (none_first _ 1 _ o _ (λ q later. go q later _ refl))
    where
      go : (q : ℕ) → after < q → (b : Bool) → nat_lt q 4294967296 ≡ b → falls_at (opening_world h.config) 1 h.events o q ≡ false
      go q later true low = let small = ltb-true q 4294967296 low in falls_there q (omega (arith, small)) ∙ none _ (omega (arith, later)) (omega (arith, small))
      go q later false high = none_late _ 1 _ o q (omega (arith, are.few, ltb-false q 4294967296 high))
