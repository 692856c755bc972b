-- The histories of a script: those that hold each lane's calls in order, and among them the one whose lines never go back.
use Rattle.std.specs.Prelude.{◌≡◌, ℕ, suc, ◌+◌, ◌<◌, ◌==◌, nat_lt, nat_le, Bool, true, ◌&&◌, List, [], ◌∷◌, length, filter, Option, None, if◌then◌else◌}
use Rattle.std.specs.List.{list_all}
use Rattle.ix_model.specs.world.World.{World}
use Rattle.ix_model.specs.opening.Opening.{opening_world}
use Rattle.ix_model.specs.history.Step.{step_of}
use Rattle.ix_model.specs.history.Events.{Event}
use Rattle.ix_script.specs.lines.Before.{lanes_of}
use Rattle.ix_script.specs.scripts.Scripts.{config_of}
use Rattle.ix_script.specs.declared.line.Line.{Line}
use Rattle.ix_asking.specs.Asking.{Answered, Asking}
use Rattle.ix_asking.specs.Lines.{Calls, calls_then, no_calls}
use Rattle.ix_lanes.specs.asking.Asked.{Names, no_names}
use Rattle.ix_script.specs.scripts.Schedule.{Numbered, is_seat, seat_after}
use Rattle.ix_lanes.specs.asking.LineAsks.{lines_ask}
use Rattle.ix_lanes.specs.asking.Ruled.{rules_told}
use Rattle.ix_lanes.specs.histories.Serial.{answered, header_of}

-- ---- what a lane asks for
-- the lines of a seat's lane; the first of these lines has the number n, and stands in the lane of the seat `at`
abbrev pub lines_of_seat : List (List ℕ) → ℕ → ℕ → Option ℕ → List Line → List Numbered
lines_of_seat lanes seat n at [] = []
lines_of_seat lanes seat n at (l ∷ lines) =
    if is_seat seat at then (record { number = n; said = l }) ∷ lines_of_seat lanes seat (suc n) (seat_after lanes at l) lines
    else lines_of_seat lanes seat (suc n) (seat_after lanes at l) lines

-- what all lines of a seat's lane ask for
unfoldable pub lane_asks : List Line → ℕ → Asking Names
lane_asks s seat = lines_ask (rules_told s) (header_of s) no_names (lines_of_seat (lanes_of s) seat 1 None s)

-- the entries that the lines of a seat's lane make when they are answered so, in order, and the one that is asked for after them
abbrev pub calls_of : List Line → ℕ → List Answered → Calls
calls_of s seat answers = calls_then seat (lane_asks s seat) answers no_calls

-- ---- histories
-- the entries of a seat
abbrev pub entries_of : ℕ → List Event → List Event
entries_of seat events = filter (λ e. e.seat == seat) events

-- the answers to the entries of a seat, in the run of all entries from a world and a place on
abbrev pub replies_from : World → ℕ → ℕ → List Event → List Answered
replies_from w place seat [] = []
replies_from w place seat (e ∷ events) =
    if e.seat == seat then answered (step_of w place e) ∷ replies_from (step_of w place e).world (place + 1) seat events
    else replies_from (step_of w place e).world (place + 1) seat events

-- in a script's history
unfoldable pub replies_of : List Line → ℕ → List Event → List Answered
replies_of s seat events = replies_from (opening_world (config_of s)) 1 seat events

-- A part that a run has made so far: each seat is the number of a lane, and the entries of each lane are those that its lines make when they are
-- answered as in the run.
pub record LanesSoFar (s : List Line) (events : List Event) : Type 0 where
  pub seats : list_all (λ e. nat_lt e.seat (length (lanes_of s))) events ≡ true
  pub calls : (seat : ℕ) → seat < length (lanes_of s) → (calls_of s seat (replies_of s seat events)).entries ≡ entries_of seat events

-- The whole: no lane asks for a further call.
pub record Lanes (s : List Line) (events : List Event) : Type 0 where
  pub seats : list_all (λ e. nat_lt e.seat (length (lanes_of s))) events ≡ true
  pub calls : (seat : ℕ) → seat < length (lanes_of s) → calls_of s seat (replies_of s seat events) ≡ record { entries = entries_of seat events; next = None }

-- along the entries the numbers of lines never fall
abbrev pub never_falls : List Event → Bool
never_falls [] = true
never_falls (e ∷ []) = true
never_falls (e ∷ f ∷ events) = nat_le e.line f.line && never_falls (f ∷ events)

-- a serial history of a script
pub record IsSerial (s : List Line) (events : List Event) : Type 0 where
  pub lanes : Lanes s events
  pub order : never_falls events ≡ true
