-- What the seats of lanes learn of each other.
use Rattle.std.specs.Prelude.{◌≡◌, ◌≢◌, ℕ, ◌<◌, Bool, true, List, length, Some, slice_get}
use mathlib.Core.List.{IsPrefix}
use Rattle.ix_gate.specs.Gate.{GateState}
use Rattle.ix_kernel.specs.Systems.{SeatGoesOn, made_at}
use Rattle.ix_model.specs.history.Events.{Event}
use Rattle.ix_parallel.specs.Seats.{Seated}

-- A lane's seat goes on without a call of its own: it sees more, and all else stays.
pub record Learns (old new : Seated) : Type 0 where
  pub run : new.run ≡ old.run
  pub goes : SeatGoesOn old.sys.seat new.sys.seat
  pub made : made_at new.sys.seat ≡ made_at old.sys.seat
  pub system : new.sys ≡ record (old.sys) { seat = new.sys.seat }

-- So do the seats of all lanes.
pub record LearnAll (old new : List Seated) : Type 0 where
  pub count : length new ≡ length old
  pub each : (n : ℕ) (lane : Seated) → slice_get new n ≡ Some lane → (before : Seated) × (slice_get old n ≡ Some before) × Learns before lane

-- A lane's seat learns of another's: it sees the longer of what the two have seen, and both begin that.
pub record LearnsOf (old other new : Seated) : Type 0 where
  pub learns : Learns old new
  pub begins : IsPrefix other.sys.seat.seen new.sys.seat.seen
  pub longer : (whole : List Event) → IsPrefix old.sys.seat.seen whole → IsPrefix other.sys.seat.seen whole → IsPrefix new.sys.seat.seen whole

-- ---- one meeting
module _ {T : Type 0} (may : T → T → Type 0) where
  -- what stands at n may learn of what stands at m
  abbrev pub MayMeet : ℕ → ℕ → List T → Type 0
  MayMeet n m all = (one other : T) → slice_get all n ≡ Some one → slice_get all m ≡ Some other → may one other

module _ {T : Type 0} (learns : T → T → T → Type 0) where
  -- What stands at n learns of what stands at m, and all others stay.
  pub record Meets (n m : ℕ) (old new : List T) : Type 0 where
    pub count : length new ≡ length old
    pub others : (k : ℕ) → k ≢ n → slice_get new k ≡ slice_get old k
    pub one : (x y : T) → slice_get old n ≡ Some x → slice_get old m ≡ Some y → (after : T) × (slice_get new n ≡ Some after) × learns x y after

-- ---- what lanes have seen
-- What the lane m has seen begins what the lane n has.
abbrev pub SeesOf : ℕ → ℕ → List Seated → Type 0
SeesOf n m lanes = (lane other : Seated) → slice_get lanes n ≡ Some lane → slice_get lanes m ≡ Some other → IsPrefix other.sys.seat.seen lane.sys.seat.seen

-- The seats of all lanes are at one kernel.
abbrev pub SameKernel : List Seated → Type 0
SameKernel lanes = (kernel : GateState) × ((n : ℕ) (lane : Seated) → slice_get lanes n ≡ Some lane → lane.sys.kernel ≡ kernel)

-- What each lane has seen begins this history.
abbrev pub AllBegin : List Event → List Seated → Type 0
AllBegin whole lanes = (n : ℕ) (lane : Seated) → slice_get lanes n ≡ Some lane → IsPrefix lane.sys.seat.seen whole

-- ---- lanes of which some take part
-- Of the first m lanes each that takes part learnt of the first one, which stays. They see no more than all together had seen.
pub record LearnOfFirst (parts : List Bool) (m : ℕ) (old new : List Seated) : Type 0 where
  pub learn : LearnAll old new
  pub first : slice_get new 0 ≡ slice_get old 0
  pub sees : (n : ℕ) → 0 < n → n < m → slice_get parts n ≡ Some true → SeesOf n 0 new
  pub within : (whole : List Event) → AllBegin whole old → AllBegin whole new

-- The first lane learnt of each of the first m that takes part, and the others stay.
pub record FirstLearns (parts : List Bool) (m : ℕ) (old new : List Seated) : Type 0 where
  pub learn : LearnAll old new
  pub others : (n : ℕ) → 0 < n → slice_get new n ≡ slice_get old n
  pub sees : (n : ℕ) → 0 < n → n < m → slice_get parts n ≡ Some true → SeesOf 0 n new
