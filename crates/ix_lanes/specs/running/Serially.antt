-- A serial run of a script that asks for one call at a time: all its phases and lanes, in the order of its lines.
use Rattle.std.specs.Prelude.{◌≡◌, ℕ, suc, ◌+◌, ◌*◌, ◌-◌, ◌<◌, ◌≤◌, Bool, true, false, List, [], map, take, drop, length, Option, Some, None, is_some, slice_get, if◌then◌else◌}
use Rattle.std.specs.Option.{option_map_or}
use Rattle.ix_model.specs.history.Events.{Event}
use Rattle.ix_model.specs.world.World.{World}
use Rattle.ix_policy.specs.declared.rule.Rule.{Rule}
use Rattle.ix_asking.specs.Asking.{Asking, Came, Due, Next, first}
use Rattle.ix_asking.specs.Runs.{entry_of}
use Rattle.ix_asking.specs.declared.copying.Copying.{Copying}
use Rattle.ix_script.specs.lines.Before.{lanes_of}
use Rattle.ix_script.specs.lines.Roles.{role_of}
use Rattle.ix_script.specs.declared.line.Line.{Line}
use Rattle.ix_script.specs.declared.role.Role.{Role}
use Rattle.ix_script.specs.declared.role.Role.TheVariants as role
use Rattle.ix_lanes.specs.asking.Asked.{Names, Numbers}
use Rattle.ix_lanes.specs.asking.Places.{standing}
use Rattle.ix_lanes.specs.asking.Ruled.{rules_told}
use Rattle.ix_lanes.specs.declared.asking.handed.Handed.{Handed}
use Rattle.ix_lanes.specs.declared.asking.places.Places.{Places}
use Rattle.ix_lanes.specs.declared.running.part.Part.{Part}
use Rattle.ix_lanes.specs.histories.Indexed.{line_in}
use Rattle.ix_script.specs.scripts.Schedule.{seat_after}
use Rattle.ix_lanes.specs.histories.Serial.{header_of, made_then, names_of, renamed, serial_from}
use Rattle.ix_lanes.specs.running.Fields.{all_placed}
use Rattle.ix_lanes.specs.running.Left.{Holds, IsPending, is_over, part_left, part_most}
use Rattle.ix_lanes.specs.running.Phases.{lane_among, seat_at}

-- Where a serial run stands: the script, what the names of each lane stand for, the line in which it stands, by its index, and the seat of that line's
-- lane, and what the line has still to ask for.
pub record SerialLeft : Type 0 where
  pub script : List Line
  pub names : List Names
  pub at : ℕ
  pub seat : Option ℕ
  pub copying : Copying
  pub part : Part

-- what its line has still to ask for, where that stands in the lane of a seat
abbrev pub line_left : SerialLeft → ℕ → Asking Handed
line_left c seat = part_left (header_of c.script) (names_of c.names seat) (c.at + 1) (line_in c.script c.at) c.copying c.part

-- whether it is the role of a line that begins a phase, or a lane's part of one
abbrev pub role_begins : Role → Bool
role_begins role.Phase = true
role_begins role.Lane = true
role_begins _ = false

-- the entries of the lines from an index on, once the line before them is done and handed this to its names
abbrev pub after_line : SerialLeft → ℕ → World → ℕ → Handed → List Event
after_line c seat w place g =
    let l = line_in c.script c.at in
    serial_from c.script w place (renamed c.names seat l g) (seat_after (lanes_of c.script) (Some seat) l) (suc (c.at + 1)) (drop (c.at + 1) c.script)

-- the entries that are left, where the machine answers from a world and a place on
abbrev pub entries_left : SerialLeft → World → ℕ → List Event
entries_left c w place = if is_over c.part then [] else option_map_or (λ seat. made_then seat w place (line_left c seat) (after_line c seat)) c.seat []

-- the entry of a seat's call that stands next, if any
abbrev pub entry_next : {R : Type 0} → ℕ → Next R → Option Event
entry_next seat (Came r) = None
entry_next seat (Due a) = Some (entry_of seat a)

-- the next entry, where one is left
abbrev pub next_entry : SerialLeft → Option Event
next_entry c = if is_over c.part then None else option_map_or (λ seat. entry_next seat (first (line_left c seat))) c.seat None

-- how many calls are left at most
abbrev pub most_entries : SerialLeft → ℕ
most_entries c = if is_over c.part then 0 else part_most c.copying c.part + 9 * (length c.script - (c.at + 1))

-- each lane has its names, and each name that a line of the lane gives has its place
pub record ArePlaced (s : List Line) (places : List Places) : Type 0 where
  pub count : length places ≡ length (lanes_of s)
  pub placed : (seat : ℕ) (names : Places) → slice_get places seat ≡ Some names → all_placed names (lane_among s seat s) ≡ true

-- The tables of a serial run are those of its script, and its policy is the script's.
pub record AreTables (s : List Line) (procs : Numbers) (places : List Places) (rules : Option (List Rule)) : Type 0 where
  pub header : procs ≡ header_of s
  pub ruled : rules ≡ rules_told s
  pub placed : ArePlaced s places

-- It stands at the end, or in a line of some lane, which asks for a call next.
pub record IsWithin (s : List Line) (places : List Places) (at : ℕ) (seat : Option ℕ) (l : Option Line) (buf : List ℕ) (copying : Copying) (p : Part) : Type 0 where
  pub within : at ≤ length s
  pub in_lane : seat ≡ seat_at s (take at s)
  pub low : is_over p ≡ false → at < length s
  pub line : is_over p ≡ false → l ≡ Some (line_in s at)
  pub apart : is_over p ≡ false → role_begins (role_of (line_in s at)) ≡ false
  pub seated : is_over p ≡ false → is_some seat ≡ true
  pub pending : (k : ℕ) → seat ≡ Some k → IsPending p (part_left (header_of s) (names_of (map standing places) k) (at + 1) (line_in s at) copying p)
  pub holds : Holds (line_in s at) buf p

-- Where it stands, the entries that are left are those of the lines from an index on, with these names and in this lane.
abbrev pub LeavesLines : List Line → List Places → Option ℕ → ℕ → SerialLeft → Type 0
LeavesLines s places seat at c = (w : World) (place : ℕ) → entries_left c w place ≡ serial_from s w place (map standing places) seat (at + 1) (drop at s)
