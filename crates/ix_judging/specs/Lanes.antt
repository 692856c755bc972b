-- Good histories: those that hold each lane's calls in order, and in which phases never fall.
use Rattle.std.specs.Prelude.{◌≡◌, ℕ, ◌+◌, ◌<◌, ◌==◌, nat_lt, nat_le, Bool, true, ◌&&◌, List, [], ◌∷◌, length, filter, Option, Some, None, if◌then◌else◌, slice_get}
use Rattle.std.specs.List.{list_all}
use Rattle.ix_judging.specs.Plan.{Plan}

-- entries, and the one that is asked for after them
pub record Calls (E : Type 0) : Type 0 where
  pub entries : List E
  pub next : Option E

-- one entry more in front
abbrev pub with_entry_first : {E : Type 0} → E → Calls E → Calls E
with_entry_first e calls = record calls { entries = e ∷ calls.entries }

-- where nothing is asked for
abbrev pub no_calls : {E : Type 0} → Calls E
no_calls = record { entries = []; next = None }

-- an entry that is asked for, if any, and is answered, and what comes after that
abbrev pub asked_first : {E : Type 0} → Option E → Calls E → Calls E
asked_first None later = no_calls
asked_first (Some e) later = with_entry_first e later

-- lanes by their seats, the machine, and the place of the next entry
pub record State (W L : Type 0) : Type 0 where
  pub lanes : List L
  pub world : W
  pub place : ℕ

module _ {W E A L T : Type 0} (p : Plan W E A L T) where
  -- what a lane of a seat asks for when it is answered so, in order
  abbrev pub calls_from : ℕ → L → List A → Calls E
  calls_from k l [] = record { entries = []; next = p.first k l }
  calls_from k l (a ∷ answers) = asked_first (p.first k l) (calls_from k (p.goes k l a) answers)

  -- the same of a lane, if any
  abbrev pub calls_in : ℕ → Option L → List A → Calls E
  calls_in k None answers = no_calls
  calls_in k (Some l) answers = calls_from k l answers

  -- the entries that the lane of a seat makes when it is answered so, in order, and the one that is asked for after them
  abbrev pub calls_of : List L → ℕ → List A → Calls E
  calls_of lanes k answers = calls_in k (slice_get lanes k) answers

  -- the entries of a seat
  abbrev pub entries_of : ℕ → List E → List E
  entries_of k events = filter (λ e. p.seat e == k) events

  -- the answers to the entries of a seat, in the run of all entries from a world and a place on
  abbrev pub replies_from : W → ℕ → ℕ → List E → List A
  replies_from w place k [] = []
  replies_from w place k (e ∷ events) =
      if p.seat e == k then p.answer w place e ∷ replies_from (p.after w place e) (place + 1) k events
      else replies_from (p.after w place e) (place + 1) k events

  -- Each seat is the number of a lane, the entries of each lane are those that it makes when it is answered as in the run, and no lane asks for a
  -- further call.
  pub record HoldsLanes (at : State W L) (events : List E) : Type 0 where
    pub seats : list_all (λ e. nat_lt (p.seat e) (length at.lanes)) events ≡ true
    pub calls : (k : ℕ) → k < length at.lanes
        → calls_of at.lanes k (replies_from at.world at.place k events) ≡ record { entries = entries_of k events; next = None }

  -- along the entries the phases never fall
  abbrev pub never_falls : List E → Bool
  never_falls [] = true
  never_falls (e ∷ []) = true
  never_falls (e ∷ f ∷ events) = nat_le (p.phase e) (p.phase f) && never_falls (f ∷ events)

  -- a good history
  pub record IsGood (at : State W L) (events : List E) : Type 0 where
    pub lanes : HoldsLanes at events
    pub order : never_falls events ≡ true
