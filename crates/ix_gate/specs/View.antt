-- The view of a seat, and how a step changes it.
use Rattle.std.specs.Prelude.{◌≡◌, ℕ, ◌+◌, ◌<◌, ◌≤◌, List, [], ◌∷◌, ◌++◌, Option, None, Some}
use Rattle.ix_gate.specs.declared.view.View.{View}
use Rattle.ix_gate.specs.declared.view.Role.{Role}
use Rattle.ix_gate.specs.declared.view.Role.TheVariants.{Nobody, Next, Made, Numbered}
use Rattle.ix_gate.specs.declared.view.Stage.{Stage}
use Rattle.ix_gate.specs.declared.view.Stage.TheVariants.{Idle, Waits}
use Rattle.ix_gate.specs.History.{entries_of, longer, shorter, KeepsEnded}

-- the role is that of the number n
abbrev pub HasNumber : Role → ℕ → Type 0
HasNumber Nobody n = ⊥
HasNumber (Next k) n = ⊥
HasNumber (Made k) n = k ≡ n
HasNumber (Numbered k) n = k ≡ n

-- the number of a role, where it has one
abbrev pub number_of : Role → ℕ
number_of Nobody = 0
number_of (Next k) = 0
number_of (Made k) = k
number_of (Numbered k) = k

module _ {B E : Type 0} where
  -- a view that has seen nothing
  abbrev pub fresh : ℕ → Option B → Role → View B E
  fresh seats base role = record {
    base = base;
    seats = seats;
    role = role;
    stage = Idle;
    seen = [];
    told = [];
    own = [];
    ended = [];
    turns = 0;
    ticket = 0;
    looks = 0;
    look_found = 0;
    misses = 0;
    miss_found = 0;
  }

  -- the table's first view, which may make the number 0
  abbrev pub first_view : ℕ → B → View B E
  first_view seats base = fresh seats (Some base) (Next 0)

  -- what is left of a view that was joined into another
  abbrev pub spent_view : View B E
  spent_view = fresh 0 None Nobody

  -- the seat that has just made its number
  abbrev pub numbered_view : View B E → View B E
  numbered_view v = fresh v.seats v.base (Numbered (number_of v.role))

  -- what may make the number after that
  abbrev pub next_view : View B E → View B E
  next_view v = fresh v.seats v.base (Next (number_of v.role + 1))

  -- a draw: one turn more, with a ticket
  abbrev pub with_ticket : View B E → ℕ → View B E
  with_ticket v ticket = record v { stage = Waits ticket; turns = v.turns + 1; ticket = ticket }

  -- one look more, with the number found, and where the seat stands then
  abbrev pub with_look : View B E → ℕ → Stage E → View B E
  with_look v found stage = record v { stage = stage; looks = v.looks + 1; look_found = found }

  -- one look more, which shows that what was told begins what was seen
  abbrev pub with_free_look : View B E → ℕ → View B E
  with_free_look v found = record v { told = []; looks = v.looks + 1; look_found = found }

  -- one failed draw more, with the number found
  abbrev pub with_miss : View B E → ℕ → View B E
  with_miss v found = record v { misses = v.misses + 1; miss_found = found }

  -- what a seat has seen, without number or ticket
  abbrev pub note : View B E → View B E
  note v = record (fresh v.seats v.base Nobody) { seen = v.seen }

  -- the longer history was seen, and the shorter told
  abbrev pub with_note : View B E → View B E → View B E
  with_note v w = record v { seen = longer v.seen w.seen; told = shorter v.seen w.seen }

  -- the same, and the other's number is ended, as are those that it had ended
  abbrev pub with_seat : View B E → View B E → View B E
  with_seat v w = record (with_note v w) { ended = v.ended ++ (number_of w.role, w.own) ∷ w.ended }

module _ {B E : Type 0} (seat : E → ℕ) where
  -- the turn is over, and the history h was seen
  abbrev pub with_turn : View B E → List E → View B E
  with_turn v h = record v { seen = h; own = entries_of seat (number_of v.role) h; stage = Idle }

  -- the history has the entries that the view knows of its number and of each that it ended, and no others of these
  abbrev pub Agrees : View B E → List E → Type 0
  Agrees v h = ((n : ℕ) → HasNumber v.role n → entries_of seat n h ≡ v.own) × KeepsEnded seat v.ended h

module _ {B E : Type 0} where
  -- What a seat without a ticket is told by a number that it finds. It is no less than that of the look before, the tickets of
  -- the seat's turns come before it, and at a gate of one seat it is the number of these turns
  pub record IsServed (v : View B E) (found : ℕ) : Type 0 where
    pub least : v.look_found ≤ found
    pub passed : 0 < v.turns → v.ticket < found
    pub alone : v.seats ≡ 1 → (k : ℕ) (b : B) → v.role ≡ Numbered k → v.base ≡ Some b → found ≡ v.turns
