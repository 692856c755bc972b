-- One seat into which those of all lanes were joined.
use Rattle.std.specs.Prelude.{◌≡◌, ℕ, ◌<◌, ◌≤◌, List, ◌++◌, length, Option, Some, None, slice_get}
use Rattle.ix_gate.specs.Gate.{GateState}
use Rattle.ix_gate.specs.Seat.{StandsFor}
use Rattle.ix_kernel.specs.Seen.{KSeatState}
use Rattle.ix_kernel.specs.Systems.{FilledUp}
use Rattle.ix_model.specs.history.Cost.{cost_of_history}
use Rattle.ix_model.specs.history.Systems.{FullFor}
use Rattle.ix_model.specs.history.Events.{Event}
use Rattle.ix_model.specs.declared.reply.Answer.{Answer}
use Rattle.ix_model.specs.declared.reply.Answer.TheVariants as answer
use Rattle.ix_script.specs.lines.Before.{lanes_of}
use Rattle.ix_script.specs.scripts.Need.{need}
use Rattle.ix_script.specs.scripts.Scripts.{config_of}
use Rattle.ix_script.specs.declared.line.Line.{Line}
use Rattle.ix_script.specs.scripts.Schedule.{phases}
use Rattle.ix_parallel.specs.Seats.{Seated, Sees}
use Rattle.ix_parallel.specs.Stages.{AsksNext, Stages}

-- The seats of all lanes are at this kernel, and have seen this history.
abbrev pub AllSee : List Line → GateState → List Event → List Seated → Type 0
AllSee s kernel history lanes = (n : ℕ) (lane : Seated) → slice_get lanes n ≡ Some lane → (lane.sys.kernel ≡ kernel) × Sees s kernel history n lane.sys.seat

-- What the last stop of each lane told fits what its seat has seen.
abbrev pub AllFilled : List Seated → Type 0
AllFilled lanes = (n : ℕ) (lane : Seated) → slice_get lanes n ≡ Some lane → 0 < lane.sys.stops → FilledUp lane.sys.used lane.sys.cap lane.sys.seat

-- One seat, which stands for all numbers below this one and no others. It has seen this history.
pub record Joined (s : List Line) (kernel : GateState) (history : List Event) (count : ℕ) (seat : KSeatState) : Type 0 where
  pub gate : seat.gate ≡ kernel.id
  pub base : seat.base ≡ Some (config_of s)
  pub seen : seat.seen ≡ history
  pub all : (n : ℕ) → n < count → StandsFor seat n
  pub only : (n : ℕ) → StandsFor seat n → n < count

-- The seats of the first lanes were joined into one, which stands for them, and those of the others are left.
pub record JoinedSoFar (kernel : GateState) (lanes left : List Seated) (seat : KSeatState) : Type 0 where
  pub done : List Seated
  pub parts : lanes ≡ done ++ left
  pub joined : (s : List Line) (history : List Event) → AllSee s kernel history lanes → Joined s kernel history (length done) seat
  pub filled : AllFilled done

-- ---- the end
-- In a history a lane asks for an entry next, and the journal of the script's config has no room for it: no more is used than the history costs.
pub record IsFull (s : List Line) (history : List Event) : Type 0 where
  pub stopped : ℕ
  pub next : Event
  pub asks : AsksNext s history stopped next
  pub used : ℕ
  pub cost : ℕ
  pub cap : ℕ
  pub full : FullFor next.op (answer.JournalFull used cost cap)
  pub little : used ≤ cost_of_history history
  pub room : cap ≡ need s

-- The lanes came to a history of all phases, or to one at which a full journal stopped a lane.
abbrev pub Ended : List Line → List Event → Option Answer → Type 0
Ended s history None = Stages s (phases s) history
Ended s history (Some stop) = IsFull s history

-- One seat, which stands for all seats of the kernel. It has seen the history to which the lanes came.
pub record StandsForAll (s : List Line) (kernel : GateState) (seat : KSeatState) (stop : Option Answer) : Type 0 where
  pub seats : kernel.seats ≡ length (lanes_of s)
  pub joined : Joined s kernel seat.seen (length (lanes_of s)) seat
  pub ended : Ended s seat.seen stop
