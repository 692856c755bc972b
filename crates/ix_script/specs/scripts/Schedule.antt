-- The schedule of a script: which stretches of lines are of which lane, and in which phase.
use Rattle.std.specs.Prelude.{◌≡◌, ℕ, suc, ◌+◌, ◌-◌, ◌<◌, ◌==◌, Bool, true, false, not, ◌&&◌, max, Option, Some, None, if◌then◌else◌}
use Rattle.std.specs.Prelude.{List, All, [], ◌∷◌, ◌++◌, length, take, drop, slice_get, slice_index_or, count_by}
use Rattle.std.specs.List.{flat_map}
use Rattle.std.specs.Option.{option_map_or}
use Rattle.ix_model.specs.world.Naming.{same_bytes}
use Rattle.ix_script.specs.lines.Before.{is_known, is_phase, phase_lanes, lanes_of}
use Rattle.ix_script.specs.declared.line.Line.{Line}
use Rattle.ix_script.specs.declared.line.Line.TheVariants as line
use Rattle.ix_script.specs.declared.schedule.Stretch.{Stretch}

-- ---- lanes and phases
-- the seat of the lane of that name, where the first of these lanes has the seat n
abbrev pub seat_from : ℕ → List ℕ → List (List ℕ) → Option ℕ
seat_from n name [] = None
seat_from n name (lane ∷ lanes) = if same_bytes name lane then Some n else seat_from (suc n) name lanes

-- no two lanes have one name: a lane is the first of its name
abbrev pub SeatsDiffer : List (List ℕ) → Type 0
SeatsDiffer lanes = (i : ℕ) (name : List ℕ) → i < length lanes → same_bytes name (slice_index_or lanes i []) ≡ true → seat_from 0 name lanes ≡ Some i

-- the seat of the lane in which the next line stands; lanes have seats 0, 1 and so on, in the order in which they first appear
abbrev pub seat_after : List (List ℕ) → Option ℕ → Line → Option ℕ
seat_after lanes seat line.Phase = None
seat_after lanes seat (line.Lane name) = seat_from 0 name lanes
seat_after lanes seat _ = seat

-- the seat of the lane that a line begins, where it begins one
abbrev pub seat_begun : List (List ℕ) → Option Line → Option ℕ
seat_begun lanes (Some (line.Lane name)) = seat_from 0 name lanes
seat_begun lanes _ = None

-- the seat that a mark stands for: 255 stands for none
abbrev pub seat_marked : ℕ → Option ℕ
seat_marked mark = if mark == 255 then None else Some mark

-- whether it is that seat
abbrev pub is_seat : ℕ → Option ℕ → Bool
is_seat seat at = option_map_or (λ s. s == seat) at false

-- how many phases a script has: each `phase` line begins one, and there is one at least; they are numbered from 0
unfoldable pub phases : List Line → ℕ
phases lines = max 1 (count_by is_phase lines)

-- a lane stands at most once in a phase: the lanes of the phase before a `lane` line don't have its name
abbrev pub LanesOnce : List Line → Type 0
LanesOnce lines = (i : ℕ) (name : List ℕ) → slice_get lines i ≡ Some (line.Lane name) → is_known name (phase_lanes (take i lines)) ≡ false

-- ---- stretches
-- whether a line begins a phase, or a lane's part of one
abbrev pub begins_part : Line → Bool
begins_part line.Phase = true
begins_part (line.Lane name) = true
begins_part _ = false

-- how many lines stand before the first that begins a part
abbrev pub part_len : List Line → ℕ
part_len [] = 0
part_len (l ∷ lines) = if begins_part l then 0 else suc (part_len lines)

-- the stretch that a line begins, where it is the `lane` line of that seat: it goes from the next line, which has the index i, to the
-- next that begins a part, and stands in the last of the phases that have begun
abbrev pub stretch_by : List (List ℕ) → ℕ → ℕ → ℕ → Line → List Line → List Stretch
stretch_by lanes seat begun i (line.Lane name) later =
    if is_seat seat (seat_from 0 name lanes) then (record { phase = begun - 1; first = i; end = i + part_len later }) ∷ [] else []
stretch_by lanes seat begun i _ later = []

-- how many phases have begun behind a line, and behind the line at an index
abbrev pub begun_after : ℕ → Line → ℕ
begun_after begun l = if is_phase l then begun + 1 else begun

abbrev pub begun_in : ℕ → ℕ → List Line → ℕ
begun_in begun i lines = option_map_or (begun_after begun) (slice_get lines i) begun

-- the stretches of a seat among lines, of which the first has the index i; so many phases have begun before it
abbrev pub stretches_from : List (List ℕ) → ℕ → ℕ → ℕ → List Line → List Stretch
stretches_from lanes seat begun i [] = []
stretches_from lanes seat begun i (l ∷ later) = stretch_by lanes seat begun (i + 1) l later ++ stretches_from lanes seat (begun_after begun l) (i + 1) later

-- the one that the line at an index begins
abbrev pub stretch_in : List (List ℕ) → ℕ → ℕ → ℕ → List Line → List Stretch
stretch_in lanes seat begun i lines = option_map_or (λ l. stretch_by lanes seat begun (i + 1) l (drop (i + 1) lines)) (slice_get lines i) []

-- the stretches of a seat's lane in a script, in order
unfoldable pub stretches_of : List Line → ℕ → List Stretch
stretches_of lines seat = stretches_from (lanes_of lines) seat 0 0 lines

-- ---- the lines of a lane
-- a line and its number
pub record Numbered : Type 0 where
  pub number : ℕ
  pub said : Line

-- lines with their numbers, of which the first has the number n
abbrev pub numbered_from : ℕ → List Line → List Numbered
numbered_from n [] = []
numbered_from n (l ∷ lines) = (record { number = n; said = l }) ∷ numbered_from (n + 1) lines

-- the lines in a seat's lane; the first of these lines has the number n, and stands in the lane of the seat `at` unless it begins a part
abbrev pub lane_lines : List (List ℕ) → ℕ → ℕ → Option ℕ → List Line → List Numbered
lane_lines lanes seat n at [] = []
lane_lines lanes seat n at (l ∷ lines) =
    if is_seat seat at && not (begins_part l) then (record { number = n; said = l }) ∷ lane_lines lanes seat (n + 1) (seat_after lanes at l) lines
    else lane_lines lanes seat (n + 1) (seat_after lanes at l) lines

-- the lines of a stretch
abbrev pub stretch_lines : List Line → Stretch → List Numbered
stretch_lines s t = numbered_from (t.first + 1) (take (t.end - t.first) (drop t.first s))

-- the lines of a lane are those of its stretches, one after the other
abbrev pub LanesAreStretches : Type 0
LanesAreStretches = (s : List Line) (seat : ℕ) → lane_lines (lanes_of s) seat 1 None s ≡ flat_map (stretch_lines s) (stretches_of s seat)

-- the phase of a stretch is the last one that has begun where it begins
abbrev pub StretchesStand : Type 0
StretchesStand = (s : List Line) (seat : ℕ) → All (λ (t : Stretch). t.phase ≡ count_by is_phase (take t.first s) - 1) (stretches_of s seat)
