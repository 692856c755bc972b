-- The phases of a script, and what a lane asks for in the first of them.
use Rattle.std.specs.Prelude.{ℕ, zero, suc, ◌+◌, take, drop, List, [], ◌∷◌, Option, None, if◌then◌else◌}
use Rattle.std.specs.List.{fold}
use Rattle.ix_script.specs.lines.Before.{is_phase, lanes_of}
use Rattle.ix_script.specs.declared.line.Line.{Line}
use Rattle.ix_asking.specs.Asking.{Answered, Asking}
use Rattle.ix_asking.specs.Lines.{Calls, calls_then, no_calls}
use Rattle.ix_lanes.specs.asking.Asked.{Names, no_names}
use Rattle.ix_script.specs.scripts.Schedule.{Numbered, seat_after}
use Rattle.ix_lanes.specs.asking.LineAsks.{lines_ask}
use Rattle.ix_lanes.specs.asking.Ruled.{rules_told}
use Rattle.ix_lanes.specs.histories.Serial.{header_of}
use Rattle.ix_lanes.specs.histories.Lanes.{lines_of_seat}

-- ---- phases
-- the lines before the `phase` line of that number, and all where there is none
unfoldable pub lines_to : ℕ → List Line → List Line
lines_to k [] = []
lines_to zero (l ∷ lines) = if is_phase l then [] else l ∷ lines_to zero lines
lines_to (suc k) (l ∷ lines) = l ∷ lines_to (if is_phase l then k else suc k) lines

-- the lines of so many phases, from the first one on
abbrev pub lines_before : ℕ → List Line → List Line
lines_before zero lines = []
lines_before (suc k) lines = lines_to (suc k) lines

-- ---- what a lane does in its first phases
-- the seat of the lane in which the line after these stands
abbrev pub seat_at : List Line → List Line → Option ℕ
seat_at s lines = fold (seat_after (lanes_of s)) None lines

-- the lines of a seat's lane among the first ones of a script
abbrev pub lane_among : List Line → ℕ → List Line → List Numbered
lane_among s seat lines = lines_of_seat (lanes_of s) seat 1 None lines

-- those between two indices, from the first one on
abbrev pub lane_between : List Line → ℕ → ℕ → ℕ → List Numbered
lane_between s seat i j = lines_of_seat (lanes_of s) seat (i + 1) (seat_at s (take i s)) (drop i (take j s))

-- those in so many phases
abbrev pub lane_before : List Line → ℕ → ℕ → List Numbered
lane_before s seat k = lane_among s seat (lines_before k s)

-- what they ask for, and what the lane's names stand for then
unfoldable pub asks_before : List Line → ℕ → ℕ → Asking Names
asks_before s seat k = lines_ask (rules_told s) (header_of s) no_names (lane_before s seat k)

-- the entries that they make when they are answered so, in order, and the one that is asked for after them
abbrev pub calls_before : List Line → ℕ → ℕ → List Answered → Calls
calls_before s seat k answers = calls_then seat (asks_before s seat k) answers no_calls
