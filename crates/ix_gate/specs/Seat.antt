-- What contracts see of a seat.
use Rattle.std.specs.Prelude.{◌≡◌, ℕ, ◌+◌, ◌<◌, ◌≤◌, ◌⊎◌, List, [], length, Option, None, Some, Contains}
use Rattle.atomic_table.specs.Seated.{TableId}
use Rattle.ix_gate.specs.History.{entries_of, longer}

pub record SeatState (B E : Type 0) : Type 0 where
  -- the gate that it was made with, how many seats that has, and the base of its machine
  pub gate : TableId
  pub seats : ℕ
  pub base : Option B
  pub number : ℕ
  -- the history that the seat has seen, and while it holds the turn the one that it took
  pub seen : List E
  pub taken : Option (List E)
  -- the numbers of the seats that were joined into this one, each with its entries
  pub ended : List (ℕ × List E)
  -- how many turns it has made, and the ticket of the last
  pub turns : ℕ
  pub ticket : ℕ
  -- how often it looked at the number that is served, and what it found last
  pub looks : ℕ
  pub look_found : ℕ
  -- how often `try_take` found another number next, and which was the last
  pub misses : ℕ
  pub miss_found : ℕ

module _ {B E : Type 0} where
  -- a seat of a new gate
  abbrev pub new_seat : TableId → ℕ → Option B → ℕ → SeatState B E
  new_seat gate seats base number = record {
    gate = gate;
    seats = seats;
    base = base;
    number = number;
    seen = [];
    taken = None;
    ended = [];
    turns = 0;
    ticket = 0;
    looks = 0;
    look_found = 0;
    misses = 0;
    miss_found = 0;
  }

  -- one turn more, which the seat holds, with the history that it took; the last look found its ticket
  abbrev pub after_take : SeatState B E → List E → ℕ → ℕ → SeatState B E
  after_take k h looks ticket = record k { taken = Some h; turns = k.turns + 1; ticket = ticket; looks = looks; look_found = ticket }

  -- no turn, and the history was seen
  abbrev pub after_give : SeatState B E → List E → SeatState B E
  after_give k h = record k { seen = h; taken = None }

  -- one look more and one miss more, with the numbers that they found
  abbrev pub after_busy : SeatState B E → ℕ → ℕ → SeatState B E
  after_busy k serving ticket = record k { looks = k.looks + 1; look_found = serving; misses = k.misses + 1; miss_found = ticket }

  -- the longer of two histories was seen, these numbers are ended, and one look more found a number
  abbrev pub after_meeting : SeatState B E → List E → List (ℕ × List E) → ℕ → SeatState B E
  after_meeting k seen ended found = record k { seen = longer k.seen seen; ended = ended; looks = k.looks + 1; look_found = found }

  -- What a seat without a turn learns by a number that was found served, and by the history h that it has then seen or taken.
  -- The number is no less than that of the look before, and the ticket of the seat's last turn comes before it. Each entry of h
  -- was made in a turn before it. At a gate of one seat it is the number of the seat's turns
  pub record LearnsServed (k : SeatState B E) (h : List E) (found : ℕ) : Type 0 where
    pub least : k.look_found ≤ found
    pub passed : 0 < k.turns → k.ticket < found
    pub entries : length h ≤ found
    pub alone : k.seats ≡ 1 → found ≡ k.turns

  -- the number is the seat's own, or one that it ended
  abbrev pub StandsFor : SeatState B E → ℕ → Type 0
  StandsFor k n = (n ≡ k.number) ⊎ ((es : List E) × Contains k.ended (n, es))

module _ {B E : Type 0} (seat : E → ℕ) where
  -- the entries of the seat's own number
  abbrev pub own_entries : SeatState B E → List E
  own_entries k = entries_of seat k.number k.seen
