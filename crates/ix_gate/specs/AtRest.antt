-- How a seat's view and slots stand behind what contracts see of it.
use Rattle.std.specs.Prelude.{◌≡◌, ℕ, ◌<◌, ◌≤◌, ◌⊎◌, List, [], ◌∷◌, length, Option, None, Some}
use mathlib.Core.List.{IsPrefix}
use Rattle.atomic_table.specs.Table.{Me}
use Rattle.atomic_table.specs.Seated.{TableId}
use Rattle.ix_gate.specs.declared.view.View.{View}
use Rattle.ix_gate.specs.declared.view.Role.TheVariants.{Numbered}
use Rattle.ix_gate.specs.declared.view.Stage.{Stage}
use Rattle.ix_gate.specs.declared.view.Stage.TheVariants.{Idle, Waits, Holds}
use Rattle.ix_gate.specs.View.{Agrees}
use Rattle.ix_gate.specs.Rule.{most_turns}
use Rattle.ix_gate.specs.Seat.{SeatState}

-- the history that a seat took which holds the turn
abbrev pub taken_at : {E : Type 0} → Stage E → Option (List E)
taken_at Idle = None
taken_at (Waits t) = None
taken_at (Holds h) = Some h

module _ {B E : Type 0} where
  -- a seat with this number, these turns and this view
  abbrev pub state_of : TableId → ℕ → ℕ → View B E → SeatState B E
  state_of gate number turns v = record {
    gate = gate;
    seats = v.seats;
    base = v.base;
    number = number;
    seen = v.seen;
    taken = taken_at v.stage;
    ended = v.ended;
    turns = turns;
    ticket = v.ticket;
    looks = v.looks;
    look_found = v.look_found;
    misses = v.misses;
    miss_found = v.miss_found;
  }

module _ {M E : Type 0} where
  -- between its calls a seat has no ticket and no slot, or holds the turn and has the slot, empty
  abbrev pub Carries : Stage E → List (ℕ × Option M) → Type 0
  Carries Idle slots = slots ≡ []
  Carries (Waits t) slots = ⊥
  Carries (Holds h) slots = slots ≡ (0, None) ∷ []

module _ {M B E : Type 0} (seat : E → ℕ) where
  -- what a seat knows and carries between its calls
  pub record IsAtRest (number turns : ℕ) (m : Me (Option M) (View B E)) : Type 0 where
    pub based : (b : B) × (m.0.base ≡ Some b)
    pub numbered : m.0.role ≡ Numbered number
    pub counted : m.0.turns ≡ turns
    pub few : turns ≤ most_turns
    pub carries : Carries m.0.stage m.1
    pub agrees : Agrees seat m.0 m.0.seen

module _ {B E : Type 0} where
  -- the same view, after some looks
  abbrev pub HasLooked : View B E → View B E → Type 0
  HasLooked v w = (looks : ℕ) × (found : ℕ) × (v.looks ≤ looks) × (w ≡ record v { looks = looks; look_found = found })

module _ {M B E : Type 0} (base : M → B) (history : M → List E) (seat : E → ℕ) where
  -- a seat has looked until it found its ticket served, and took the machine x out of its slot
  pub record TakesMachine (m n : Me (Option M) (View B E)) (x : M) : Type 0 where
    pub looks : ℕ
    pub now : n ≡ (record (m.0) { stage = Holds (history x); looks = looks; look_found = m.0.ticket }, (0, None) ∷ [])
    pub more : m.0.looks < looks
    pub based : (m.0.base ≡ None) ⊎ (m.0.base ≡ Some (base x))
    pub begins : IsPrefix m.0.seen (history x)
    pub agrees : Agrees seat m.0 (history x)
    pub entries : length (history x) ≤ m.0.ticket
