-- The rule of a gate's table: what holds between any two steps.
use Rattle.std.specs.Prelude.{◌≡◌, ℕ, zero, suc, ◌+◌, ◌<◌, ◌≤◌, ◌^◌, ◌⊎◌, List, [], ◌∷◌, length, Option, None, Some, Contains}
use mathlib.Core.Option.{Option as Home, none, some}
use mathlib.Core.List.{IsPrefix}
use lib.ListN.{get_elem?}
use Rattle.atomic_table.specs.Table.{State}
use Rattle.ix_gate.specs.declared.view.View.{View}
use Rattle.ix_gate.specs.declared.view.Role.{Role}
use Rattle.ix_gate.specs.declared.view.Role.TheVariants.{Nobody, Next, Made, Numbered}
use Rattle.ix_gate.specs.declared.view.Stage.{Stage}
use Rattle.ix_gate.specs.declared.view.Stage.TheVariants.{Idle, Waits, Holds}
use Rattle.ix_gate.specs.History.{entries_of}
use Rattle.ix_gate.specs.View.{HasNumber, Agrees}

-- the turns that a seat may make, and the seats of a gate: with these no word comes to 2 ^ 64
abbrev pub most_turns : ℕ
most_turns = 2 ^ 57

abbrev pub most_seats : ℕ
most_seats = 64

-- the turns made under all numbers below n
abbrev pub total_turns : (ℕ → ℕ) → ℕ → ℕ
total_turns turns zero = 0
total_turns turns (suc n) = total_turns turns n + turns n

-- What a table's words and views come from. A view is named by its place among all views.
pub record Book (E : Type 0) : Type 0 where
  -- the three words: the next ticket, the number that is served, and the next seat's number
  pub next : ℕ
  pub served : ℕ
  pub made : ℕ
  -- the history as the last turn that was passed on left it
  pub published : List E
  -- the place of the seat that drew a ticket
  pub queue : ℕ → ℕ
  -- the place of the seat that has a number, or ended it
  pub owner : ℕ → ℕ
  -- the turns made under a number
  pub turns : ℕ → ℕ
  -- the place of the view that may make the next number
  pub maker : ℕ

-- the seat at place i may make the number `made`, or has made the one before
abbrev pub MayMake : ℕ → ℕ → ℕ → Role → Type 0
MayMake made maker i Nobody = Unit {0}
MayMake made maker i (Next k) = (i ≡ maker) × (k ≡ made)
MayMake made maker i (Made k) = (i ≡ maker) × (k + 1 ≡ made)
MayMake made maker i (Numbered k) = Unit {0}

-- the role is that of a seat
abbrev pub IsNumbered : Role → Type 0
IsNumbered r = (n : ℕ) × (r ≡ Numbered n)

-- a seat at this stage has the ticket t
abbrev pub HasTicket : {E : Type 0} → ℕ → ℕ → Stage E → Type 0
HasTicket served t Idle = ⊥
HasTicket served t (Waits u) = u ≡ t
HasTicket served t (Holds h) = t ≡ served

-- the last ticket of a seat that has drawn one was passed on, unless the seat has it still
abbrev pub DrewLast : {E : Type 0} → ℕ → ℕ → ℕ → Stage E → Type 0
DrewLast served turns ticket Idle = 0 < turns → ticket < served
DrewLast served turns ticket (Waits t) = ticket ≡ t
DrewLast served turns ticket (Holds h) = ticket ≡ served

module _ {B E : Type 0} (queue : ℕ → ℕ) (served next : ℕ) where
  -- each ticket that was drawn and not yet passed on has its seat
  abbrev pub IsQueued : List (View B E) → Type 0
  IsQueued views = (t : ℕ) → served ≤ t → t < next
      → (v : View B E) × (get_elem? views (queue t) ≡ some v) × HasTicket served t v.stage

module _ {M E : Type 0} (queue : ℕ → ℕ) (served next : ℕ) (published : List E) (homes : List (Home (Option M))) where
  -- A seat that waits has a ticket of its own in the queue.
  -- One that holds the turn has the ticket that is served, took the published history, and has the slot
  abbrev pub Stands : ℕ → Role → Stage E → Type 0
  Stands i r Idle = Unit {0}
  Stands i r (Waits t) = (queue t ≡ i) × (served ≤ t) × (t < next) × IsNumbered r
  Stands i r (Holds h) = (queue served ≡ i) × (served < next) × IsNumbered r × (h ≡ published) × (homes ≡ none ∷ [])

module _ {M B E : Type 0} (seat : E → ℕ) (base : B) (seats : ℕ) (g : Book E) (homes : List (Home (Option M))) where
  -- what the rule says of the view at place i
  pub record Fits (i : ℕ) (v : View B E) : Type 0 where
    -- it has the base and the size of the gate, unless it is spent
    pub based : (v.base ≡ None) ⊎ (v.base ≡ Some base)
    pub sized : (v.base ≡ None) ⊎ (v.seats ≡ seats)
    -- what it has seen, and what it was told, begins the published history
    pub seen : IsPrefix v.seen g.published
    pub told : IsPrefix v.told g.published
    -- its own number: that it has it, its turns, and its entries in the published history
    pub number : (n : ℕ) → HasNumber v.role n
        → (g.owner n ≡ i) × (n < g.made) × (g.turns n ≡ v.turns) × (entries_of seat n g.published ≡ v.own)
    -- each number that it ended: that it has it, and its entries in the published history
    pub ended : (n : ℕ) (es : List E) → Contains v.ended (n, es)
        → (g.owner n ≡ i) × (n < g.made) × (entries_of seat n g.published ≡ es) × ¬ HasNumber v.role n
    -- all of these entries were seen
    pub agrees : Agrees seat v v.seen
    pub makes : MayMake g.made g.maker i v.role
    pub stands : Stands g.queue g.served g.next g.published homes i v.role v.stage
    -- the number that is served has not gone back
    pub look_found : v.look_found ≤ g.served
    pub drew : DrewLast g.served v.turns v.ticket v.stage

module _ {M B E : Type 0} (base_of : M → B) (history_of : M → List E) (base : B) (published : List E) where
  -- the machine is at home with the published history, or some seat holds the turn
  abbrev pub IsKept : List (Home (Option M)) → List (View B E) → Type 0
  IsKept homes views =
      ((m : M) × (homes ≡ some (Some m) ∷ []) × (history_of m ≡ published) × (base_of m ≡ base))
      ⊎ ((i : ℕ) × (v : View B E) × (h : List E)
      × (homes ≡ none ∷ []) × (get_elem? views i ≡ some v) × (v.stage ≡ Holds h))

module _ {M B E : Type 0} (base_of : M → B) (history_of : M → List E) (seat : E → ℕ) where
  -- the state of a table obeys the rule, for a gate with this base and so many seats
  pub record Obeys (base : B) (seats : ℕ) (s : State (Option M) (View B E)) : Type 0 where
    pub book : Book E
    pub words : s.words ≡ book.next ∷ book.served ∷ book.made ∷ []
    pub ordered : book.served ≤ book.next
    -- each ticket is a turn of one number, and a number makes few enough
    pub counted : book.next ≡ total_turns book.turns book.made
    pub few_turns : (n : ℕ) → book.turns n ≤ most_turns
    pub few_seats : (book.made ≤ seats) × (seats ≤ most_seats)
    -- each entry was made in a turn that was passed on
    pub short : length book.published ≤ book.served
    -- a number that was not made has no entry
    pub unmade : (n : ℕ) → book.made ≤ n → entries_of seat n book.published ≡ []
    pub kept : IsKept base_of history_of base book.published s.homes s.views
    pub queued : IsQueued book.queue book.served book.next s.views
    pub each : (i : ℕ) (v : View B E) → get_elem? s.views i ≡ some v → Fits seat base seats book s.homes i v
