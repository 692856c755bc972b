-- What the lanes of a script ask for, one entry after the other.
use Rattle.std.proofs.Common.{◌≡◌, ℕ, ◌+◌, ◌==◌, ◌<◌, nat_lt, true, List, [], ◌∷◌, Option, Some, None, refl, sym, ap, ◌∙◌, inl, inr, if◌then◌else◌}
use Rattle.std.{specs.List.list_all, proofs.lemmas.Bool.{cases_eq, eq-eqb, ne_eqb}}
use Rattle.ix_model.specs.{world.World.World, history.{Step.step_of, Events.Event}}
use Rattle.ix_asking.specs.{Asking.{Answered, Asking, Done, Ask, heard}, Lines.{Calls, calls_then, no_calls}, Runs.entry_of}
use Rattle.ix_lanes.specs.{asking.Asked.Names, histories.{Serial.answered, Lanes.{entries_of, replies_from}}}
use Rattle.ix_lanes.proofs.serially.{LaneSteps.{entries-mine, entries-other, replies-mine, replies-other}, OneEntry.{all_answered, first_seat}}

-- ---- one lane
-- the entry that is asked for next
abbrev pub next_of : {R : Type 0} → ℕ → Asking R → Option Event
next_of seat (Done r) = None
next_of seat (Ask a later) = Some (entry_of seat a)

-- where its entries begin with one, that is what is asked for next, and the others come once it is answered
first_call : {R : Type 0} (seat : ℕ) (p : Asking R) (x : Answered) (answers : List Answered) (e : Event) (events : List Event)
    → calls_then seat p (x ∷ answers) no_calls ≡ all_answered (e ∷ events)
    → (next_of seat p ≡ Some e) × (calls_then seat (heard p x) answers no_calls ≡ all_answered events)
first_call seat (Done r) x answers e events h = let none : [] ≡ e ∷ events = ap (λ (c : Calls). c.entries) h in cc
first_call seat (Ask a later) x answers e events h =
    let rest : Calls = calls_then seat (later x) answers no_calls in
    let entries : entry_of seat a ∷ rest.entries ≡ e ∷ events = ap (λ (c : Calls). c.entries) h in
    let next : rest.next ≡ None = ap (λ (c : Calls). c.next) h in
    let first : entry_of seat a ≡ e = cc in
    let others : rest.entries ≡ events = cc in
    (ap Some first, λ i. record { entries = others i; next = next i })

-- ---- all lanes
-- what the lane of each seat asks for
abbrev pub Askers : Type 0
Askers = ℕ → Asking Names

-- once the entry of a seat was answered
abbrev pub moved : Askers → ℕ → Answered → Askers
moved askers j x k = if j == k then heard (askers k) x else askers k

-- the entries are those of so many lanes in which all that is asked for is answered, where the machine has come to a world and a place
pub record Follows (count : ℕ) (askers : Askers) (w : World) (place : ℕ) (events : List Event) : Type 0 where
  pub seats : list_all (λ e. nat_lt e.seat count) events ≡ true
  pub calls : (k : ℕ) → k < count → calls_then k (askers k) (replies_from w place k events) no_calls ≡ all_answered (entries_of k events)

module _ (count : ℕ) (askers : Askers) (w : World) (place : ℕ) (e : Event) (events : List Event) (f : Follows count askers w place (e ∷ events)) where
  pub seat_low : e.seat < count
  seat_low = (first_seat count e events f.seats).0

  here : (k : ℕ) → k < count → e.seat ≡ k
      → (next_of k (askers k) ≡ Some e)
      × (calls_then k (heard (askers k) (answered (step_of w place e))) (replies_from (step_of w place e).world (place + 1) k events) no_calls ≡ all_answered (entries_of k events))
  here k low mine =
      first_call k (askers k) (answered (step_of w place e)) (replies_from (step_of w place e).world (place + 1) k events) e (entries_of k events)
      (ap (λ answers. calls_then k (askers k) answers no_calls) (sym (replies-mine w place k e events mine)) ∙ f.calls k low ∙ ap all_answered (entries-mine k e events mine))

  -- the first entry is the next one of its lane
  pub is_next : next_of e.seat (askers e.seat) ≡ Some e
  is_next = (here e.seat seat_low refl).0

  -- the others come after it
  pub follow : Follows count (moved askers e.seat (answered (step_of w place e))) (step_of w place e).world (place + 1) events
  follow = record {
    seats = (first_seat count e events f.seats).1;
    calls = λ k low. elim (cases_eq e.seat k) [
      | inl mine ↦ rw (eq-eqb e.seat k mine) (here k low mine).1
      | inr apart ↦ rw (ne_eqb e.seat k apart)
          (ap (λ answers. calls_then k (askers k) answers no_calls) (sym (replies-other w place k e events apart)) ∙ f.calls k low ∙ ap all_answered (entries-other k e events apart))
    ];
  }
