-- Where a lane stands among its stretches.
use Rattle.std.specs.Prelude.{◌≡◌, ℕ, suc, ◌+◌, ◌-◌, ◌≤◌, ◌<◌, Bool, true, false, not, ◌&&◌, List, [], ◌∷◌, length, take, drop, max, count_by}
use Rattle.ix_script.specs.lines.Before.{is_phase}
use Rattle.ix_script.specs.scripts.Schedule.{begins_part, is_seat, stretches_of}
use Rattle.ix_script.specs.declared.line.Line.{Line}
use Rattle.ix_script.specs.declared.schedule.Stretch.{Stretch}
use Rattle.ix_lanes.specs.histories.Indexed.{line_in}
use Rattle.ix_lanes.specs.running.Phases.{lines_before, seat_at}

-- whether the line at an index stands in the lane of a seat, and begins no part
abbrev pub stands_in : List Line → ℕ → ℕ → Bool
stands_in s seat i = is_seat seat (seat_at s (take i s)) && not (begins_part (line_in s i))

-- The lines from one index to another all stand in the lane of a seat, and none of them does.
abbrev pub AllStand : List Line → ℕ → ℕ → ℕ → Type 0
AllStand s seat i j = (k : ℕ) → i ≤ k → k < j → stands_in s seat k ≡ true

abbrev pub NoneStands : List Line → ℕ → ℕ → ℕ → Type 0
NoneStands s seat i j = (k : ℕ) → i ≤ k → k < j → stands_in s seat k ≡ false

-- From an index on the lines of a lane are those of these stretches, of which each begins where the one before has ended, or later.
abbrev pub AreLeft : List Line → ℕ → ℕ → List Stretch → Type 0
AreLeft s seat i [] = NoneStands s seat i (length s)
AreLeft s seat i (t ∷ ts) =
    (i ≤ t.first) × NoneStands s seat i t.first × (t.first ≤ t.end) × (t.end ≤ length s) × AllStand s seat t.first t.end × AreLeft s seat t.end ts

-- A lane stands at an index, and has come to so many of its stretches. Before the end of this one it stands in it; behind it only those are left to
-- which it hasn't come.
pub record IsAmong (s : List Line) (seat at : ℕ) (t : Stretch) (come : ℕ) : Type 0 where
  pub lines : at < t.end → AllStand s seat at t.end
  pub within : at < t.end → t.end ≤ length s
  pub phase : at < t.end → t.phase ≡ count_by is_phase (take at s) - 1
  pub left : AreLeft s seat (max at t.end) (drop come (stretches_of s seat))

-- how many steps it is from an end at most, where a step is a line or a stretch
abbrev pub steps_to : List Line → ℕ → ℕ → ℕ → ℕ → ℕ
steps_to s seat end at come = (end - at) + (length (stretches_of s seat) - come)

-- ---- in a phase
-- A lane has no line in a phase.
abbrev pub HasNone : List Line → ℕ → ℕ → Type 0
HasNone s seat k = NoneStands s seat (length (lines_before k s)) (length (lines_before (suc k) s))

-- It has one there, which has this index.
pub record HasOne (s : List Line) (seat k : ℕ) : Type 0 where
  pub index : ℕ
  pub from : length (lines_before k s) ≤ index
  pub to : index < length (lines_before (suc k) s)
  pub stands : stands_in s seat index ≡ true

-- It is told so whether a lane has a line in a phase.
abbrev pub TellsPart : List Line → ℕ → ℕ → Bool → Type 0
TellsPart s seat k true = HasOne s seat k
TellsPart s seat k false = HasNone s seat k
