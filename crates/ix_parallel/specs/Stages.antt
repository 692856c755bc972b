-- How a history comes about, a phase after the other.
use Rattle.std.specs.Prelude.{◌≡◌, ℕ, zero, suc, ◌<◌, List, [], length, Option, Some, None}
use mathlib.Core.List.{IsPrefix}
use Rattle.ix_model.specs.history.Events.{Event}
use Rattle.ix_script.specs.lines.Before.{lanes_of}
use Rattle.ix_script.specs.declared.line.Line.{Line}
use Rattle.ix_lanes.specs.histories.Lanes.{entries_of, replies_of}
use Rattle.ix_lanes.specs.running.Phases.{calls_before}

-- In a history a lane has the entries that it asks for in so many phases, up to this one, or up to the end.
abbrev pub ComesTo : List Line → ℕ → List Event → ℕ → Option Event → Type 0
ComesTo s k events seat next = calls_before s seat k (replies_of s seat events) ≡ record { entries = entries_of seat events; next = next }

-- Each lane has all entries of so many phases, and no others.
abbrev pub LanesTo : List Line → ℕ → List Event → Type 0
LanesTo s k events = (seat : ℕ) → seat < length (lanes_of s) → ComesTo s k events seat None

-- The lanes made the entries of so many phases, those of each phase behind those of the one before.
abbrev pub Stages : List Line → ℕ → List Event → Type 0
Stages s zero events = events ≡ []
Stages s (suc k) events = (before : List Event) × IsPrefix before events × LanesTo s (suc k) events × Stages s k before

-- Each lane has what it asks for, up to some place in so many phases. One of them asks for this entry next.
pub record AsksNext (s : List Line) (events : List Event) (lane : ℕ) (entry : Event) : Type 0 where
  pub phases : ℕ
  pub each : (seat : ℕ) → seat < length (lanes_of s) → (next : Option Event) × ComesTo s phases events seat next
  pub within : lane < length (lanes_of s)
  pub here : ComesTo s phases events lane (Some entry)
