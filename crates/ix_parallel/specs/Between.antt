-- How lanes stand between two phases, where each has met the others only for those in which it has a line.
use Rattle.std.specs.Prelude.{◌≡◌, ℕ, zero, suc, ◌<◌, Bool, true, List, [], length, Option, Some, None, slice_get}
use mathlib.Core.List.{IsPrefix}
use Rattle.ix_asking.specs.Lines.{events_of}
use Rattle.ix_asking.specs.Runs.{answers_of}
use Rattle.ix_gate.specs.Gate.{GateState}
use Rattle.ix_kernel.specs.Seen.{KSeatState}
use Rattle.ix_kernel.specs.Systems.{made_at}
use Rattle.ix_model.specs.history.Events.{Event}
use Rattle.ix_model.specs.history.Seats.{made_by}
use Rattle.ix_model.specs.history.Systems.{FullFor}
use Rattle.ix_model.specs.declared.reply.Answer.{Answer}
use Rattle.ix_model.specs.declared.reply.Answer.TheVariants as answer
use Rattle.ix_script.specs.lines.Before.{lanes_of}
use Rattle.ix_script.specs.scripts.Scripts.{config_of}
use Rattle.ix_script.specs.declared.line.Line.{Line}
use Rattle.ix_lanes.specs.running.Phases.{calls_before}
use Rattle.ix_lanes.specs.running.Runs as runs
use Rattle.ix_lanes.specs.running.Stretches.{TellsPart}
use Rattle.ix_parallel.specs.Seats.{Seated}
use Rattle.ix_parallel.specs.Stages.{ComesTo}

-- ---- who takes part
-- For each lane that comes to this phase it is told so whether it has a line there.
abbrev pub TellParts : ℕ → List Seated → List Bool → Type 0
TellParts phase lanes parts = (n : ℕ) (lane : Seated) → slice_get lanes n ≡ Some lane → lane.run.between ≡ true → phase ≡ lane.run.done
    → (b : Bool) × (slice_get parts n ≡ Some b) × TellsPart lane.run.script lane.run.lane phase b

-- ---- seats
-- A seat of that number, which ended no other: it has seen a beginning of this history of the script's config.
pub record SeesPart (s : List Line) (kernel : GateState) (history : List Event) (n : ℕ) (seat : KSeatState) : Type 0 where
  pub gate : seat.gate ≡ kernel.id
  pub base : seat.base ≡ Some (config_of s)
  pub number : seat.number ≡ n
  pub ended : seat.ended ≡ []
  pub begins : IsPrefix seat.seen history

-- A lane's seat made all entries that its number has in this history.
abbrev pub MadeAll : List Line → List Event → List Seated → ℕ → Type 0
MadeAll s history lanes n = (lane : Seated) → slice_get lanes n ≡ Some lane → made_by n (record { config = config_of s; events = history }) ≡ made_at lane.sys.seat

-- ---- between two phases
-- The lanes made the entries of so many phases, those of each phase behind those of the one before; of a lane it is said where this holds.
abbrev pub StagesWhere : (ℕ → Type 0) → List Line → ℕ → List Event → Type 0
StagesWhere holds s zero events = events ≡ []
StagesWhere holds s (suc k) events =
    (before : List Event) × IsPrefix before events × ((seat : ℕ) → seat < length (lanes_of s) → holds seat → ComesTo s (suc k) events seat None) × StagesWhere holds s k before

-- The lane of that number has done so many phases, and its seat has seen a beginning of this history.
pub record Waits (s : List Line) (at : GateState) (k : ℕ) (history : List Event) (n : ℕ) (seated : Seated) : Type 0 where
  pub script : seated.run.script ≡ s
  pub lane : seated.run.lane ≡ n
  pub done : seated.run.done ≡ k
  pub stands : runs.StandsFor seated.run (made_at seated.sys.seat)
  pub kernel : seated.sys.kernel ≡ at
  pub sees : SeesPart s at history n seated.sys.seat

-- All lanes have done so many phases. The seat of the first has seen one history, which came about a phase after the other, as far as each lane made
-- the entries of its number; and the other seats have seen beginnings of it.
pub record Between (s : List Line) (kernel : GateState) (k : ℕ) (lanes : List Seated) : Type 0 where
  pub history : List Event
  pub stages : StagesWhere (MadeAll s history lanes) s k history
  pub some : 0 < length (lanes_of s)
  pub count : length lanes ≡ length (lanes_of s)
  pub first : (lane : Seated) → slice_get lanes 0 ≡ Some lane → lane.sys.seat.seen ≡ history
  pub each : (n : ℕ) (lane : Seated) → slice_get lanes n ≡ Some lane → Waits s kernel k history n lane

-- ---- a lane that was stopped
-- What the seat of a number made is what its lane asks for in so many phases, up to this entry, or up to the end.
abbrev pub MadeTo : List Line → ℕ → ℕ → KSeatState → Option Event → Type 0
MadeTo s k n seat next = calls_before s n k (answers_of (made_at seat)) ≡ record { entries = events_of (made_at seat); next = next }

-- The seat of the first lane has seen one history, and the others beginnings of it. The system of one lane told of a full journal for the entry that
-- the lane asks for next.
pub record CutShort (s : List Line) (kernel : GateState) (lanes : List Seated) : Type 0 where
  pub history : List Event
  pub some : 0 < length (lanes_of s)
  pub count : length lanes ≡ length (lanes_of s)
  pub first : (lane : Seated) → slice_get lanes 0 ≡ Some lane → lane.sys.seat.seen ≡ history
  pub sees : (n : ℕ) (lane : Seated) → slice_get lanes n ≡ Some lane → (lane.sys.kernel ≡ kernel) × SeesPart s kernel history n lane.sys.seat
  pub phases : ℕ
  pub made : (n : ℕ) (lane : Seated) → slice_get lanes n ≡ Some lane → (next : Option Event) × MadeTo s phases n lane.sys.seat next
  pub stopped : ℕ
  pub lane : Seated
  pub here : slice_get lanes stopped ≡ Some lane
  pub next : Event
  pub cut : MadeTo s phases stopped lane.sys.seat (Some next)
  pub stops : 0 < lane.sys.stops
  pub full : FullFor next.op (answer.JournalFull lane.sys.used lane.sys.need lane.sys.cap)

-- So many phases are done, or a lane was stopped.
abbrev pub GetsTo : List Line → GateState → ℕ → List Seated → Option Answer → Type 0
GetsTo s kernel k lanes None = Between s kernel k lanes
GetsTo s kernel k lanes (Some stop) = CutShort s kernel lanes
