-- Runs, one call at a time: a lane that has a call in the least phase in which any lane has one makes it.
use Rattle.std.specs.Prelude.{◌≡◌, ℕ, ◌+◌, ◌≤◌, List, [], ◌∷◌, Option, Some, None, slice_get, slice_set, ◌<◌, nat_lt, true, length}
use Rattle.std.specs.List.{list_all}
use Rattle.ix_judging.specs.Plan.{Plan}
use Rattle.ix_judging.specs.Lanes.{State, calls_of, entries_of, replies_from}

module _ {W E A L T : Type 0} (p : Plan W E A L T) where
  -- the next call of a lane, if any
  abbrev pub asks_in : ℕ → Option L → Option E
  asks_in k None = None
  asks_in k (Some l) = p.first k l

  -- the next call of the lane of a seat
  abbrev pub asks : List L → ℕ → Option E
  asks lanes k = asks_in k (slice_get lanes k)

  -- the lanes where this one, if any, was answered so
  abbrev pub moved : List L → ℕ → A → Option L → List L
  moved lanes k a None = lanes
  moved lanes k a (Some l) = slice_set lanes k (p.goes k l a)

  -- the lanes once the next call of a seat was answered so
  abbrev pub lanes_after : List L → ℕ → A → List L
  lanes_after lanes k a = moved lanes k a (slice_get lanes k)

  -- once an entry was made
  abbrev pub entered : State W L → E → State W L
  entered at e = record {
    lanes = lanes_after at.lanes (p.seat e) (p.answer at.world at.place e);
    world = p.after at.world at.place e;
    place = at.place + 1;
  }

  -- once entries were made
  abbrev pub reached : State W L → List E → State W L
  reached at [] = at
  reached at (e ∷ events) = reached (entered at e) events

  -- no lane makes a further call
  abbrev pub IsOver : List L → Type 0
  IsOver lanes = (k : ℕ) → asks lanes k ≡ None

  -- A lane makes this call next, and no lane has a call left in an earlier phase.
  pub record IsTurn (lanes : List L) (e : E) : Type 0 where
    pub call : asks lanes (p.seat e) ≡ Some e
    pub least : (k : ℕ) (f : E) → asks lanes k ≡ Some f → p.phase e ≤ p.phase f

  -- each of these entries is made in its turn
  abbrev pub IsRun : State W L → List E → Type 0
  IsRun at [] = Unit {0}
  IsRun at (e ∷ events) = IsTurn at.lanes e × IsRun (entered at e) events

  -- and then no lane makes a further call
  abbrev pub IsWholeRun : State W L → List E → Type 0
  IsWholeRun at [] = IsOver at.lanes
  IsWholeRun at (e ∷ events) = IsTurn at.lanes e × IsWholeRun (entered at e) events

  -- A part that was run so far: each seat is the number of a lane, the entries of each lane are those that it makes when it is answered as in the run,
  -- and what it asks for after them is its next call.
  pub record HoldsSoFar (at : State W L) (events : List E) : Type 0 where
    pub seats : list_all (λ e. nat_lt (p.seat e) (length at.lanes)) events ≡ true
    pub calls : (k : ℕ) → k < length at.lanes
        → calls_of p at.lanes k (replies_from p at.world at.place k events)
        ≡ record { entries = entries_of p k events; next = asks (reached at events).lanes k }
