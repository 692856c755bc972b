-- The lanes of a script, each with a seat at one kernel, from phase to phase.
use Rattle.std.specs.Prelude.{◌≡◌, ℕ, ◌≤◌, ◌<◌, List, [], length, drop, Option, Some, None, slice_get}
use Rattle.ix_gate.specs.Gate.{GateState}
use Rattle.ix_gate.specs.Seat.{new_seat}
use Rattle.ix_kernel.specs.Seen.{KSeatState}
use Rattle.ix_kernel.specs.Systems.{SystemState, made_at}
use Rattle.ix_model.specs.history.Systems.{FullFor}
use Rattle.ix_model.specs.history.Events.{Event}
use Rattle.ix_model.specs.declared.config.Config.{Config}
use Rattle.ix_model.specs.declared.reply.Answer.{Answer}
use Rattle.ix_model.specs.declared.reply.Answer.TheVariants as answer
use Rattle.ix_script.specs.lines.Before.{lanes_of}
use Rattle.ix_script.specs.scripts.Scripts.{config_of}
use Rattle.ix_script.specs.declared.line.Line.{Line}
use Rattle.ix_lanes.specs.declared.running.side_by_side.Lane.{Lane}
use Rattle.ix_lanes.specs.running.Runs as runs
use Rattle.ix_parallel.specs.Stages.{AsksNext, Stages}

-- ---- seats
-- A seat of that number, which ended no other: it has seen this history of the script's config.
pub record Sees (s : List Line) (kernel : GateState) (history : List Event) (n : ℕ) (seat : KSeatState) : Type 0 where
  pub gate : seat.gate ≡ kernel.id
  pub base : seat.base ≡ Some (config_of s)
  pub number : seat.number ≡ n
  pub ended : seat.ended ≡ []
  pub seen : seat.seen ≡ history

-- seats that nobody has used yet, one for each of so many numbers
pub record AreNew (kernel : GateState) (config : Config) (many : ℕ) (seats : List KSeatState) : Type 0 where
  pub count : length seats ≡ many
  pub each : (k : ℕ) → k < many → slice_get seats k ≡ Some (new_seat kernel.id many (Some config) k)

-- ---- lanes
-- a lane with its seat
abbrev pub Seated : Type 0
Seated = Lane SystemState

-- The lane of that number has done so many phases, and its seat has seen this history.
pub record Stands (s : List Line) (at : GateState) (k : ℕ) (history : List Event) (n : ℕ) (seated : Seated) : Type 0 where
  pub script : seated.run.script ≡ s
  pub lane : seated.run.lane ≡ n
  pub done : seated.run.done ≡ k
  pub stands : runs.StandsFor seated.run (made_at seated.sys.seat)
  pub kernel : seated.sys.kernel ≡ at
  pub sees : Sees s at history n seated.sys.seat

-- All lanes have done so many phases, and their seats have seen one history, which came about a phase after the other.
pub record AtPhase (s : List Line) (kernel : GateState) (k : ℕ) (lanes : List Seated) : Type 0 where
  pub history : List Event
  pub stages : Stages s k history
  pub some : 0 < length (lanes_of s)
  pub count : length lanes ≡ length (lanes_of s)
  pub each : (n : ℕ) (lane : Seated) → slice_get lanes n ≡ Some lane → Stands s kernel k history n lane

-- ---- a lane that was stopped
-- All seats have seen one history. The system of one lane told of a full journal for the entry that the lane asks for next.
pub record AreStopped (s : List Line) (kernel : GateState) (lanes : List Seated) : Type 0 where
  pub history : List Event
  pub count : length lanes ≡ length (lanes_of s)
  pub sees : (n : ℕ) (lane : Seated) → slice_get lanes n ≡ Some lane → (lane.sys.kernel ≡ kernel) × Sees s kernel history n lane.sys.seat
  pub stopped : ℕ
  pub next : Event
  pub asks : AsksNext s history stopped next
  pub lane : Seated
  pub here : slice_get lanes stopped ≡ Some lane
  pub stops : 0 < lane.sys.stops
  pub full : FullFor next.op (answer.JournalFull lane.sys.used lane.sys.need lane.sys.cap)

-- So many phases are done, or a lane was stopped.
abbrev pub Runs : List Line → GateState → ℕ → List Seated → Option Answer → Type 0
Runs s kernel k lanes None = AtPhase s kernel k lanes
Runs s kernel k lanes (Some stop) = AreStopped s kernel lanes

-- ---- as lanes get their seats
-- So many lanes have got their seats, and the others are left.
pub record SeatedSoFar (s : List Line) (kernel : GateState) (seats left : List KSeatState) (number : ℕ) (lanes : List Seated) : Type 0 where
  pub rest : left ≡ drop number seats
  pub within : number ≤ length seats
  pub count : length lanes ≡ number
  pub each : (n : ℕ) (lane : Seated) → slice_get lanes n ≡ Some lane → Stands s kernel 0 [] n lane
