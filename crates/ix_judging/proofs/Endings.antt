-- Each run can be brought to an end.
use Rattle.std.proofs.{Common.{refl, ◌≡◌, ℕ, zero, suc, ◌+◌, ◌≤◌, ◌<◌, List, [], ◌∷◌, ◌++◌, length, Option, Some, None, sym, ap, subst, arith, inl, inr, slice_get}, lemmas.Bool.cases_eq}
use Rattle.ix_judging.specs.{Plan.{Plan, Lawful}, Lanes.{State, IsGood}, Runs.{IsTurn, IsWholeRun, IsRun, entered, reached}, Judge.{BeginsIn, IsReport, lines_of, report_from, report_of}}
use Rattle.ix_judging.proofs.{Stores.{after_other, after_same, asking_lane, asks_within, length-entered}, Turns.a_turn, GoodRuns.runs_good}

module _ {W E A L T : Type 0} (p : Plan W E A L T) where
  -- ---- how many more calls lanes can make
  bound_in : Option L → ℕ
  bound_in None = 0
  bound_in (Some l) = p.bound l

  -- the lanes of so many first seats
  left_to : ℕ → List L → ℕ
  left_to zero lanes = 0
  left_to (suc m) lanes = bound_in (slice_get lanes m) + left_to m lanes

  module _ (count : ℕ) (lawful : Lawful p count) where
    -- a call makes fewer of them
    Fewer : State W L → E → ℕ → Type 0
    Fewer at e m = (left_to m (entered p at e).lanes ≤ left_to m at.lanes) × (p.seat e < m → left_to m (entered p at e).lanes < left_to m at.lanes)

    fewer_below : (at : State W L) (e : E) → IsTurn p at.lanes e → (m : ℕ) → Fewer at e m
    unfolding Fewer left_to bound_in
    fewer_below at e turn zero = (omega arith, λ below. absurd (omega (arith, below)))
    fewer_below at e turn (suc m) =
        let more = fewer_below at e turn m in
        elim (cases_eq m _) [
          | inl mine ↦
              let found = asking_lane p _ (p.seat e) e turn.call in
              let a = p.answer at.world at.place e in
              let was = ap bound_in (subst (λ (n : ℕ). slice_get at.lanes n ≡ Some found.0) (sym mine) found.1) in
              let now =
              ap bound_in (subst (λ (n : ℕ). slice_get (entered p at e).lanes n ≡ Some (p.goes (p.seat e) found.0 a)) (sym mine)
              (after_same p at.lanes (p.seat e) a found.0 found.1)) in
              let less = lawful.ends (p.seat e) found.0 a e found.2 in
              (omega (arith, was, now, less, more.0), λ below. omega (arith, was, now, less, more.0))
          | inr apart ↦
              let same : bound_in (slice_get (entered p at e).lanes m) ≡ bound_in (slice_get at.lanes m) =
              ap bound_in (after_other p at.lanes (p.seat e) m (p.answer at.world at.place e) apart) in
              (omega (arith, same, more.0), λ below. let less = more.1 (omega (arith, below, apart)) in omega (arith, same, less))
        ]

    fewer : (at : State W L) (e : E) → IsTurn p at.lanes e
        → left_to (length at.lanes) (entered p at e).lanes < left_to (length at.lanes) at.lanes
    unfolding Fewer
    fewer at e turn = (fewer_below at e turn _).1 (asks_within p _ _ e turn.call)

    -- ---- an end
    end_within : (most : ℕ) (at : State W L) → left_to (length at.lanes) at.lanes ≤ most → (events : List E) × IsWholeRun p at events
    end_within zero at few = elim (a_turn p _ lawful _) [
      | inl over ↦ ([], over)
      | inr next ↦ let less = fewer at _ next.1 in absurd (omega (arith, few, less))
    ]
    end_within (suc most) at few = elim (a_turn p _ lawful _) [
      | inl over ↦ ([], over)
      | inr next ↦
          let less = fewer at next.0 next.1 in
          let same : left_to (length (entered p at next.0).lanes) (entered p at next.0).lanes ≡ left_to (length at.lanes) (entered p at next.0).lanes =
          ap (λ (n : ℕ). left_to n (entered p at next.0).lanes) (length-entered p at next.0) in
          let rest = end_within most (entered p at next.0) (omega (arith, few, less, same)) in
          (next.0 ∷ rest.0, (next.1, rest.1))
    ]

    -- from each state an end is reached
    pub an_end : (at : State W L) → (events : List E) × IsWholeRun p at events
    an_end at = end_within (left_to (length at.lanes) at.lanes) at (omega arith)

    -- entries that are taken, and then a run
    taken_then : (at : State W L) (events more : List E) → IsRun p at events → IsWholeRun p (reached p at events) more
        → IsWholeRun p at (events ++ more)
    taken_then at [] more takes runs = runs
    taken_then at (e ∷ events) more takes runs = (takes.0, taken_then (entered p at e) events _ takes.1 runs)

    -- what has run is the front of a good history
    pub front_ends : (at : State W L) (events : List E) → IsRun p at events → (more : List E) × IsGood p at (events ++ more)
    front_ends at events takes =
        let rest = an_end (reached p at events) in
        (rest.0, runs_good p _ lawful at _ (taken_then at _ _ takes rest.1))

    -- ---- the lines of what has run
    report-append : (at : State W L) (events more : List E)
        → report_from p at (events ++ more) ≡ lines_of p at events ++ report_from p (reached p at events) more
    report-append at [] more = refl
    report-append at (e ∷ events) more = ap (λ lines. p.line at.world at.place e ∷ lines) (report-append (entered p at e) events _)

    pub lines_begin : (at : State W L) (events : List E) → IsRun p at events → BeginsIn (IsReport p at) (p.head ∷ lines_of p at events)
    lines_begin at events takes =
        let ends = front_ends at _ takes in (
          report_of p at (events ++ ends.0),
          report_from p (reached p at events) ends.0,
          (events ++ ends.0, ends.1, refl),
          ap (λ lines. p.head ∷ lines) (report-append at _ _),
        )
