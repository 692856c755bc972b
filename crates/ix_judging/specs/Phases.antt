-- Runs that go phase by phase: the next phase begins once no lane has a call left in this one.
use Rattle.std.specs.Prelude.{◌≡◌, ℕ, ◌≤◌, ◌<◌, List, [], ◌∷◌, Some}
use Rattle.ix_judging.specs.Plan.{Plan}
use Rattle.ix_judging.specs.Lanes.{State}
use Rattle.ix_judging.specs.Runs.{IsOver, asks, entered}

module _ {W E A L T : Type 0} (p : Plan W E A L T) where
  -- no lane has a call left in that phase
  abbrev pub IsEnded : List L → ℕ → Type 0
  IsEnded lanes phase = (k : ℕ) (e : E) → asks p lanes k ≡ Some e → p.phase e ≡ phase → ⊥

  -- From a phase on, each phase before that of the entry has ended, and a lane makes the entry next.
  pub record IsInPhase (phase : ℕ) (lanes : List L) (e : E) : Type 0 where
    pub call : asks p lanes (p.seat e) ≡ Some e
    pub later : phase ≤ p.phase e
    pub ended : (n : ℕ) → phase ≤ n → n < p.phase e → IsEnded lanes n

  -- each entry is made in its phase, from this one on, and then no lane makes a further call
  abbrev pub IsPhasedRun : ℕ → State W L → List E → Type 0
  IsPhasedRun phase at [] = IsOver p at.lanes
  IsPhasedRun phase at (e ∷ events) = IsInPhase phase at.lanes e × IsPhasedRun (p.phase e) (entered p at e) events
