-- Runs that go phase by phase are the runs.
use Rattle.std.proofs.{Common.{◌≡◌, ℕ, ◌≤◌, ◌<◌, ◌⊎◌, List, [], ◌∷◌, Some, refl, sym, ◌∙◌, subst, arith, inl, inr}, lemmas.Bool.cases_eq}
use Rattle.ix_judging.specs.{Plan.{Plan, Lawful}, Lanes.{State, IsGood}, Runs.{IsTurn, IsWholeRun, asks, entered}, Phases.{IsPhasedRun, IsInPhase}}
use Rattle.ix_judging.proofs.{Stores.{asking_lane, asks-other, asks-same}, GoodRuns.{good_runs, runs_good}}

order : (a b : ℕ) → (a ≤ b) ⊎ (b < a)
order a b = grind arith

module _ {W E A L T : Type 0} (p : Plan W E A L T) (count : ℕ) (lawful : Lawful p count) where
  -- no lane has a call left before a phase
  abbrev Since : ℕ → List L → Type 0
  Since phase lanes = (k : ℕ) (e : E) → asks p lanes k ≡ Some e → phase ≤ p.phase e

  since_after : (at : State W L) (e : E) → IsTurn p at.lanes e → Since (p.phase e) (entered p at e).lanes
  since_after at e turn k f is = elim (cases_eq k _) [
    | inl same ↦
        let found = asking_lane p _ _ e turn.call in
        let a = p.answer at.world at.place e in
        let later =
        sym (asks-same p at e _ found.1) ∙ subst (λ n. asks p (entered p at e).lanes n ≡ Some f) same is in
        lawful.rises _ found.0 a e f found.2 later
    | inr apart ↦ turn.least k f (sym (asks-other p at e k apart) ∙ is)
  ]

  in_turn : (phase : ℕ) (lanes : List L) (e : E) → Since phase lanes → IsInPhase p phase lanes e → IsTurn p lanes e
  in_turn phase lanes e since is = record {
    call = is.call;
    least = λ k f asked. elim (order _ _) [
      | inl le ↦ le
      | inr lt ↦ absurd (is.ended _ (since k f asked) lt k f asked refl)
    ];
  }

  in_phase : (phase : ℕ) (lanes : List L) (e : E) → Since phase lanes → IsTurn p lanes e → IsInPhase p phase lanes e
  in_phase phase lanes e since turn = record {
    call = turn.call;
    later = since _ e turn.call;
    ended = λ n from before k f asked is. let least = turn.least k f asked in omega (arith, least, before, is);
  }

  goes_runs : (phase : ℕ) (at : State W L) (events : List E) → Since phase at.lanes → IsPhasedRun p phase at events → IsWholeRun p at events
  goes_runs phase at [] since goes = goes
  goes_runs phase at (e ∷ events) since goes =
      let turn = in_turn phase at.lanes e since goes.0 in
      (turn, goes_runs (p.phase e) (entered p at e) events (since_after at e turn) goes.1)

  runs_go : (phase : ℕ) (at : State W L) (events : List E) → Since phase at.lanes → IsWholeRun p at events → IsPhasedRun p phase at events
  runs_go phase at [] since runs = runs
  runs_go phase at (e ∷ events) since runs =
      (in_phase _ _ e since runs.0, runs_go (p.phase e) (entered p at e) events (since_after at e runs.0) runs.1)

  since_first : (at : State W L) → Since 0 at.lanes
  since_first at k e is = omega arith

  pub goes_good : (at : State W L) (events : List E) → IsPhasedRun p 0 at events → IsGood p at events
  goes_good at events goes = runs_good p _ lawful at _ (goes_runs 0 at _ (since_first at) goes)

  pub good_goes : (at : State W L) (events : List E) → IsGood p at events → IsPhasedRun p 0 at events
  good_goes at events g = runs_go 0 at _ (since_first at) (good_runs p at _ g)
