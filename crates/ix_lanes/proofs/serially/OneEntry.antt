-- One entry more or less at the front of a history, whatever the lanes ask for.
use Rattle.std.proofs.Common.{◌≡◌, ℕ, ◌+◌, ◌≤◌, ◌<◌, nat_lt, nat_le, true, List, [], ◌∷◌, Some, None, refl, sym, ap, ◌∙◌, subst, arith, inl, inr}
use Rattle.std.{specs.List.list_all, proofs.lemmas.Bool.{and_parts, and_from, cases_eq, le-leb, leb-true, lt-ltb, ltb-true}}
use Rattle.ix_model.specs.{world.World.World, history.{Step.step_of, Events.Event}}
use Rattle.ix_asking.specs.{Asking.{Asked, Answered, Asking, Ask}, Lines.{Calls, calls_then, with_entry_first}, Runs.entry_of}
use Rattle.ix_lanes.specs.histories.{Serial.answered, Lanes.{entries_of, never_falls, replies_from}}
use Rattle.ix_lanes.proofs.serially.LaneSteps.{entries-mine, entries-other, replies-mine, replies-other}

-- ---- numbers of lines along entries
pub tail_rises : (e : Event) (events : List Event) → never_falls (e ∷ events) ≡ true → never_falls events ≡ true
tail_rises e [] h = refl
tail_rises e (f ∷ events) h = (and_parts (nat_le e.line f.line) (never_falls (f ∷ events)) h).1

-- no entry of a seat lies before the first entry
pub first_is_least : (k : ℕ) (e f : Event) (events later : List Event) → never_falls (e ∷ events) ≡ true → entries_of k events ≡ f ∷ later
    → e.line ≤ f.line
first_is_least k e f [] later h has = cc
first_is_least k e f (g ∷ events) later h has =
    let parts = and_parts (nat_le e.line g.line) (never_falls (g ∷ events)) h in
    let here = leb-true e.line g.line parts.0 in
    elim (cases_eq g.seat k) [
      | inl mine ↦ let same : g ≡ f = cc (entries-mine k g events mine) in subst (λ (x : Event). e.line ≤ x.line) same here
      | inr apart ↦ let more = first_is_least k g f events later parts.1 (sym (entries-other k g events apart) ∙ has) in omega (arith, here, more)
    ]

-- ---- what lanes ask for
-- what the lane of each seat asks for, as it is answered
abbrev pub LanesAsk : Type 0
LanesAsk = ℕ → List Answered → Calls

-- an entry is asked for, and what comes after the answer to it
abbrev pub asks_for : Event → List Answered → (Answered → List Answered → Calls) → Calls
asks_for e [] more = record { entries = []; next = Some e }
asks_for e (r ∷ answers) more = with_entry_first e (more r answers)

-- where a call stands next, it is asked for
pub ask-for : {R : Type 0} (k : ℕ) (a : Asked) (later : Answered → Asking R) (answers : List Answered) (after : R → List Answered → Calls)
    → calls_then k (Ask a later) answers after ≡ asks_for (entry_of k a) answers (λ r rest. calls_then k (later r) rest after)
ask-for k a later [] after = refl
ask-for k a later (r ∷ answers) after = refl

-- entries after which no further call is asked for
abbrev pub all_answered : List Event → Calls
all_answered events = record { entries = events; next = None }

-- the entries are those of so many lanes in which all that is asked for is answered, where the machine has come to a world and a place
pub record Going (count : ℕ) (asking : LanesAsk) (w : World) (place : ℕ) (events : List Event) : Type 0 where
  pub seats : list_all (λ e. nat_lt e.seat count) events ≡ true
  pub calls : (k : ℕ) → k < count → asking k (replies_from w place k events) ≡ all_answered (entries_of k events)
  pub order : never_falls events ≡ true

-- a lane asks for nothing of a line before that one
abbrev pub StartsAt : ℕ → (List Answered → Calls) → Type 0
StartsAt n asks = (answers : List Answered) (e : Event) (events : List Event) → (asks answers).entries ≡ e ∷ events → n ≤ e.line

-- the first entry's seat is a lane's, and so are those of the rest
pub first_seat : (count : ℕ) (e : Event) (events : List Event) → list_all (λ x. nat_lt x.seat count) (e ∷ events) ≡ true
    → (e.seat < count) × (list_all (λ x. nat_lt x.seat count) events ≡ true)
first_seat count e events h =
    let parts = and_parts (nat_lt e.seat count) (list_all (λ x. nat_lt x.seat count) events) h in
    (ltb-true e.seat count parts.0, parts.1)

-- an entry that comes first, and what comes after it
pub first_entry : (e f : Event) (c : Calls) (events : List Event) → with_entry_first e c ≡ all_answered (f ∷ events)
    → (e ≡ f) × (c ≡ all_answered events)
first_entry e f c events h =
    let entries : e ∷ c.entries ≡ f ∷ events = ap (λ (x : Calls). x.entries) h in
    let next : c.next ≡ None = ap (λ (x : Calls). x.next) h in
    let first : e ≡ f = cc in
    let later : c.entries ≡ events = cc in
    (first, λ i. record { entries = later i; next = next i })

-- what is asked for is among the entries
is_among : (e : Event) (answers : List Answered) (more : Answered → List Answered → Calls) (events : List Event)
    → asks_for e answers more ≡ all_answered events → (later : List Event) × (events ≡ e ∷ later)
is_among e [] more events h = let none : Some e ≡ None = ap (λ (x : Calls). x.next) h in cc
is_among e (r ∷ answers) more events h = (_, sym (ap (λ (x : Calls). x.entries) h))

-- Before, one lane asks for an entry first. After, it goes on from the answer to that, and the others are where they were.
module _ (count : ℕ) (before after : LanesAsk) (w : World) (place : ℕ) (e : Event) (more : Answered → List Answered → Calls) where
  pub record Answers : Type 0 where
    pub first : (answers : List Answered) → before e.seat answers ≡ asks_for e answers more
    pub mine : (answers : List Answered) → after e.seat answers ≡ more (answered (step_of w place e)) answers
    pub others : (k : ℕ) → (e.seat ≡ k → ⊥) → (answers : List Answered) → after k answers ≡ before k answers
    pub within : e.seat < count

  -- what the entry's lane asks for, once it is answered
  goes_on : Answers → (events : List Event)
      → before e.seat (replies_from w place e.seat (e ∷ events)) ≡ with_entry_first e (after e.seat (replies_from (step_of w place e).world (place + 1) e.seat events))
  goes_on a events =
      ap (before e.seat) (replies-mine w place e.seat e events refl) ∙ a.first _
      ∙ ap (with_entry_first e) (sym (a.mine (replies_from (step_of w place e).world (place + 1) e.seat events)))

  -- what another lane asks for stays
  stays : Answers → (events : List Event) (k : ℕ) → (e.seat ≡ k → ⊥)
      → before k (replies_from w place k (e ∷ events)) ≡ after k (replies_from (step_of w place e).world (place + 1) k events)
  stays a events k apart = ap (before k) (replies-other w place k e events apart) ∙ sym (a.others k apart _)

  rises : ((k : ℕ) → StartsAt e.line (after k)) → (v : World) (next_place : ℕ) (events : List Event) → Going count after v next_place events
      → never_falls (e ∷ events) ≡ true
  rises starts v p [] g = refl
  rises starts v p (f ∷ events) g =
      let later = starts f.seat (replies_from v p f.seat (f ∷ events)) f (entries_of f.seat events)
      (ap (λ (x : Calls). x.entries) (g.calls f.seat (first_seat count f events g.seats).0) ∙ entries-mine f.seat f events refl) in
      and_from (nat_le e.line f.line) (never_falls (f ∷ events)) (le-leb e.line f.line later) g.order

  -- the entry comes before what is asked for later
  pub one_before : Answers → ((k : ℕ) → StartsAt e.line (after k)) → (events : List Event)
      → Going count after (step_of w place e).world (place + 1) events → Going count before w place (e ∷ events)
  one_before a starts events g = record {
    seats = and_from (nat_lt e.seat count) (list_all (λ x. nat_lt x.seat count) events) (lt-ltb e.seat count a.within) g.seats;
    calls = λ k k_within. elim (cases_eq e.seat k) [
      | inl it ↦ subst (λ (m : ℕ). before m (replies_from w place m (e ∷ events)) ≡ all_answered (entries_of m (e ∷ events))) it
          (goes_on a events ∙ ap (with_entry_first e) (g.calls e.seat a.within) ∙ ap all_answered (sym (entries-mine e.seat e events refl)))
      | inr apart ↦ stays a events k apart ∙ g.calls k k_within ∙ ap all_answered (sym (entries-other k e events apart))
    ];
    order = rises starts (step_of w place e).world (place + 1) events g;
  }

  -- what is left after the entry
  left_after : Answers → (events : List Event) → Going count before w place (e ∷ events)
      → Going count after (step_of w place e).world (place + 1) events
  left_after a events g = record {
    seats = (first_seat count e events g.seats).1;
    calls = λ k k_within. elim (cases_eq e.seat k) [
      | inl it ↦ subst (λ (m : ℕ). after m (replies_from (step_of w place e).world (place + 1) m events) ≡ all_answered (entries_of m events)) it
          (first_entry _ _ _ _ (sym (goes_on a events) ∙ g.calls e.seat a.within ∙ ap all_answered (entries-mine e.seat e events refl))).1
      | inr apart ↦ sym (stays a events k apart) ∙ g.calls k k_within ∙ ap all_answered (entries-other k e events apart)
    ];
    order = tail_rises e events g.order;
  }

  -- the first entry of all is that one
  is_first : Answers → ((k : ℕ) → (e.seat ≡ k → ⊥) → StartsAt (e.line + 1) (before k)) → (f : Event) (events : List Event)
      → Going count before w place (f ∷ events) → e ≡ f
  is_first a later f events g =
      let asked : asks_for e (replies_from w place e.seat (f ∷ events)) more ≡ all_answered (entries_of e.seat (f ∷ events)) =
      sym (a.first _) ∙ g.calls e.seat a.within in
      let among = is_among e (replies_from w place e.seat (f ∷ events)) more (entries_of e.seat (f ∷ events)) asked in
      elim (cases_eq e.seat f.seat) [
        | inl mine ↦ let has : f ∷ entries_of e.seat events ≡ e ∷ among.0 = sym (entries-mine e.seat f events (sym mine)) ∙ among.1 in cc
        | inr apart ↦
            let has : entries_of e.seat events ≡ e ∷ among.0 = sym (entries-other e.seat f events (λ it. apart (sym it))) ∙ among.1 in
            let least = first_is_least e.seat f e events among.0 g.order has in
            let after_it = later f.seat apart (replies_from w place f.seat (f ∷ events)) f (entries_of f.seat events)
            (ap (λ (x : Calls). x.entries) (g.calls f.seat (first_seat count f events g.seats).0) ∙ entries-mine f.seat f events refl) in
            absurd (omega (arith, least, after_it))
      ]

  -- the entry is the first one, and what is left comes after it
  pub one_after : Answers → ((k : ℕ) → (e.seat ≡ k → ⊥) → StartsAt (e.line + 1) (before k)) → (events : List Event)
      → Going count before w place events
      → (rest : List Event) × (events ≡ e ∷ rest) × Going count after (step_of w place e).world (place + 1) rest
  one_after a later [] g =
      let among = is_among e [] more [] (sym (a.first []) ∙ g.calls e.seat a.within) in
      let none : [] ≡ e ∷ among.0 = among.1 in cc
  one_after a later (f ∷ events) g =
      let same = is_first a later f events g in
      (events, ap (λ (x : Event). x ∷ events) (sym same), left_after a events (subst (λ (x : Event). Going count before w place (x ∷ events)) (sym same) g))
