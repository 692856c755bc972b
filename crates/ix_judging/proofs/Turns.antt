-- Whose turn it is.
use Rattle.std.proofs.Common.{◌≡◌, ℕ, zero, suc, ◌≤◌, ◌<◌, ◌⊎◌, Bool, true, false, is_none, List, length, Option, Some, None, refl, sym, ap, ◌∙◌, subst, arith, inl, inr, if◌then◌else◌}
use Rattle.std.proofs.lemmas.Bool.{and_parts, and_from, cases_eq, le-leb, leb-true}
use Rattle.ix_judging.{specs.{Plan.{Plan, Lawful}, Lanes.State, Runs.{IsOver, IsTurn, asks}}, proofs.Stores.{asks_within, asking_lane, none_past}}
use Rattle.ix_judging.specs.Walk.{called_by, is_not_before, is_over, least_to, on_turn, over_to, told_call}

module _ {W E A L T : Type 0} (p : Plan W E A L T) where
  -- ---- all lanes are done
  over_then : (o : Option E) → is_none o ≡ true → o ≡ None
  over_then None is = refl
  over_then (Some e) is = cc is

  over_below : (m : ℕ) (lanes : List L) → over_to p m lanes ≡ true → (k : ℕ) → k < m → asks p lanes k ≡ None
  over_below zero lanes over k below = absurd (omega (arith, below))
  over_below (suc m) lanes over k below =
      let parts = and_parts _ _ over in
      elim (cases_eq k m) [
        | inl same ↦ subst (λ n. asks p lanes n ≡ None) (sym same) (over_then _ parts.0)
        | inr apart ↦ over_below m _ parts.1 k (omega (arith, below, apart))
      ]

  over_from : (m : ℕ) (lanes : List L) → IsOver p lanes → over_to p m lanes ≡ true
  over_from zero lanes over = refl
  over_from (suc m) lanes over = and_from _ _ (ap is_none (over m)) (over_from m _ over)

  pub over_is : (lanes : List L) → is_over p lanes ≡ true → IsOver p lanes
  over_is lanes over k = elim (below_or k _) [
    | inl below ↦ over_below _ _ over k below
    | inr past ↦ none_past p _ k past
  ]
    where
      below_or : (k n : ℕ) → (k < n) ⊎ (n ≤ k)
      below_or k n = grind arith

  pub is_over_from : (lanes : List L) → IsOver p lanes → is_over p lanes ≡ true
  is_over_from lanes over = over_from _ _ over

  -- ---- no lane has a call left in an earlier phase
  not_before : (e : E) (o : Option E) → is_not_before p e o ≡ true → (f : E) → o ≡ Some f → p.phase e ≤ p.phase f
  not_before e None is f has = cc has
  not_before e (Some g) is f has = let same : g ≡ f = cc in subst (λ x. p.phase e ≤ p.phase x) same (leb-true _ _ is)

  not_before_from : (e : E) (o : Option E) → ((f : E) → o ≡ Some f → p.phase e ≤ p.phase f) → is_not_before p e o ≡ true
  not_before_from e None h = refl
  not_before_from e (Some g) h = le-leb _ _ (h g refl)

  pub least_below : (m : ℕ) (lanes : List L) (e : E) → least_to p m lanes e ≡ true → (k : ℕ) (f : E) → k < m → asks p lanes k ≡ Some f
      → p.phase e ≤ p.phase f
  least_below zero lanes e least k f below is = absurd (omega (arith, below))
  least_below (suc m) lanes e least k f below is =
      let parts = and_parts _ _ least in
      elim (cases_eq k m) [
        | inl same ↦ not_before e _ parts.0 f (subst (λ n. asks p lanes n ≡ Some f) same is)
        | inr apart ↦ least_below m _ e parts.1 k f (omega (arith, below, apart)) is
      ]

  pub least_from : (m : ℕ) (lanes : List L) (e : E) → ((k : ℕ) (f : E) → asks p lanes k ≡ Some f → p.phase e ≤ p.phase f)
      → least_to p m lanes e ≡ true
  least_from zero lanes e h = refl
  least_from (suc m) lanes e h =
      and_from _ _ (not_before_from e _ (λ f is. h m f is)) (least_from m _ e h)

  module _ (count : ℕ) (lawful : Lawful p count) where
    -- an asked call is its seat's
    pub asked_seat : (lanes : List L) (k : ℕ) (e : E) → asks p lanes k ≡ Some e → p.seat e ≡ k
    asked_seat lanes k e is = let found = asking_lane p _ k e is in lawful.seats k found.0 e found.2

    turn_from : (lanes : List L) (k : ℕ) (e : E) → asks p lanes k ≡ Some e
        → ((j : ℕ) (f : E) → asks p lanes j ≡ Some f → p.phase e ≤ p.phase f) → IsTurn p lanes e
    turn_from lanes k e is least = record { call = subst (λ n. asks p lanes n ≡ Some e) (sym (asked_seat _ k e is)) is; least = least }

    -- ---- the call that a line tells of
    -- what is found is the turn's
    pub told_turn : (at : State W L) (l : T) (e : E) → told_call p at l ≡ Some e → IsTurn p at.lanes e
    told_turn at l e = by_seat _
      where
        tested : (k : ℕ) (f : E) (b : Bool) → least_to p (length at.lanes) at.lanes f ≡ b → asks p at.lanes k ≡ Some f
            → (if b then Some f else None) ≡ Some e → IsTurn p at.lanes e
        tested k f false test is has = cc has
        tested k f true test is has =
            let same : f ≡ e = cc in
            subst (λ x. IsTurn p at.lanes x) same
            (turn_from _ k f is (λ j g asked. least_below _ _ f test j g (asks_within p _ j g asked) asked))

        by_call : (k : ℕ) (o : Option E) → asks p at.lanes k ≡ o → on_turn p at.lanes o ≡ Some e → IsTurn p at.lanes e
        by_call k None is has = cc has
        by_call k (Some f) is has = tested k f _ refl is has

        by_seat : (o : Option ℕ) → called_by p at.lanes o ≡ Some e → IsTurn p at.lanes e
        by_seat None has = cc has
        by_seat (Some k) has = by_call k _ refl has

    -- the turn's is found by its line
    pub turn_told : (at : State W L) (e : E) → length at.lanes ≡ count → IsTurn p at.lanes e
        → told_call p at (p.line at.world at.place e) ≡ Some e
    turn_told at e all turn =
        let within = subst (λ n. p.seat e < n) all (asks_within p _ _ e turn.call) in
        ap (called_by p at.lanes) (lawful.names at.world at.place e within)
        ∙ ap (on_turn p at.lanes) turn.call
        ∙ ap (λ b. if b then Some e else None) (least_from _ _ e turn.least)

    -- ---- there is a turn while not all is over
    pub IsLeastOf : ℕ → List L → E → ℕ → Type 0
    IsLeastOf m lanes e k = (asks p lanes k ≡ Some e) × ((j : ℕ) (f : E) → j < m → asks p lanes j ≡ Some f → p.phase e ≤ p.phase f)

    least_of : (m : ℕ) (lanes : List L) → ((k : ℕ) → k < m → asks p lanes k ≡ None) ⊎ ((e : E) × (k : ℕ) × IsLeastOf m lanes e k)
    unfolding IsLeastOf
    least_of zero lanes = inl (λ k below. absurd (omega (arith, below)))
    least_of (suc m) lanes = go (least_of m _) _ refl
      where
        at_one : (o : Option E) (q : ℕ) → asks p lanes m ≡ o → ((g : E) → o ≡ Some g → q ≤ p.phase g)
            → ((j : ℕ) (g : E) → j < m → asks p lanes j ≡ Some g → q ≤ p.phase g)
            → (j : ℕ) (g : E) → j < suc m → asks p lanes j ≡ Some g → q ≤ p.phase g
        at_one o q here h below j g lt is = elim (cases_eq j m) [
          | inl same ↦ h g (sym here ∙ subst (λ n. asks p lanes n ≡ Some g) same is)
          | inr apart ↦ below j g (omega (arith, lt, apart)) is
        ]

        go : ((k : ℕ) → k < m → asks p lanes k ≡ None) ⊎ ((e : E) × (k : ℕ) × IsLeastOf m lanes e k) → (o : Option E) → asks p lanes m ≡ o
            → ((k : ℕ) → k < suc m → asks p lanes k ≡ None) ⊎ ((e : E) × (k : ℕ) × IsLeastOf (suc m) lanes e k)
        go (inl none) None here = inl (λ k below. elim (cases_eq k m) [
          | inl same ↦ subst (λ n. asks p lanes n ≡ None) (sym same) here
          | inr apart ↦ none k (omega (arith, below, apart))
        ])
        go (inl none) (Some f) here = inr (
          f,
          m,
          (
            here,
            λ j g lt is. elim (cases_eq j m) [
              | inl same ↦ let one : f ≡ g = cc (sym here ∙ subst (λ (n : ℕ). asks p lanes n ≡ Some g) same is) in subst (λ x. p.phase f ≤ p.phase x) one (omega arith)
              | inr apart ↦ cc (sym (none j (omega (arith, lt, apart))) ∙ is)
            ],
          ),
        )
        go (inr found) None here = inr (found.0, found.1, (found.2.0, at_one _ _ here (λ g no. cc no) found.2.1))
        go (inr found) (Some f) here = elim (order _ _) [
          | inl le ↦
              let least : (g : E) → Some f ≡ Some g → p.phase found.0 ≤ p.phase g = λ g is. let one : f ≡ g = cc in subst (λ x. p.phase found.0 ≤ p.phase x) one le in
              inr (found.0, found.1, (found.2.0, at_one _ _ here least found.2.1))
          | inr gt ↦ inr (
            f,
            m,
            (
              here,
              at_one _ _ here (λ g is. let one : f ≡ g = cc in subst (λ x. p.phase f ≤ p.phase x) one (omega arith))
                  (λ j g lt is. let more = found.2.1 j g lt is in omega (arith, more, gt)),
            ),
          )
        ]
          where
            order : (a b : ℕ) → (a ≤ b) ⊎ (b ≤ a)
            order a b = grind arith

    pub a_turn : (lanes : List L) → IsOver p lanes ⊎ ((e : E) × IsTurn p lanes e)
    unfolding IsLeastOf
    a_turn lanes = elim (least_of (length lanes) lanes) [
      | inl none ↦ inl (λ k. elim (below_or k (length lanes)) [
        | inl below ↦ none k below
        | inr past ↦ none_past p lanes k past
      ])
      | inr found ↦ inr (found.0, turn_from lanes found.1 found.0 found.2.0 (λ j f is. found.2.1 j f (asks_within p _ j f is) is))
    ]
      where
        below_or : (k n : ℕ) → (k < n) ⊎ (n ≤ k)
        below_or k n = grind arith
