-- The serial history of a script: its lines in order, each answered before the next.
use Rattle.std.specs.Prelude.{ℕ, suc, ◌+◌, List, [], ◌∷◌, length, replicate, Option, Some, None, slice_index_or, slice_set}
use Rattle.std.specs.FinMap as map
use Rattle.ix_model.specs.world.World.{World}
use Rattle.ix_model.specs.opening.Opening.{opening_world}
use Rattle.ix_model.specs.history.Step.{Given, step_of}
use Rattle.ix_model.specs.history.Events.{Event}
use Rattle.ix_script.specs.lines.Before.{lanes_of, proc_names}
use Rattle.ix_script.specs.scripts.Schedule.{seat_after}
use Rattle.ix_script.specs.scripts.Scripts.{config_of}
use Rattle.ix_script.specs.declared.line.Line.{Line}
use Rattle.ix_asking.specs.Asking.{Answered, Asking, Done, Ask}
use Rattle.ix_asking.specs.Runs.{entry_of}
use Rattle.ix_lanes.specs.declared.asking.handed.Handed.{Handed}
use Rattle.ix_lanes.specs.asking.Asked.{Names, Numbers, named, no_names}
use Rattle.ix_lanes.specs.asking.LineAsks.{line_asks}
use Rattle.ix_lanes.specs.asking.Ruled.{rules_told}

-- ---- a script's processes and lanes
-- names with these after them, which stand for n and the numbers after it
abbrev pub numbered : ℕ → List (List ℕ) → Numbers → Numbers
numbered n [] numbers = numbers
numbered n (name ∷ names) numbers = numbered (suc n) names (map.insert numbers name n)

-- the processes of the header have pids 1, 2 and so on, in order
unfoldable pub header_of : List Line → Numbers
header_of s = numbered 1 (proc_names s) map.empty

-- ---- one line
-- what the names of a seat's lane stand for
abbrev pub names_of : List Names → ℕ → Names
names_of names seat = slice_index_or names seat no_names

-- what an entry is answered
abbrev pub answered : Given → Answered
answered given = record { reply = given.reply; bytes = given.bytes }

-- what the names of all lanes stand for once a line of a seat's lane is done
abbrev pub renamed : List Names → ℕ → Line → Handed → List Names
renamed names seat l g = slice_set names seat (named (names_of names seat) l g)

-- The entries of what a seat asks for, where the machine answers it from a world and a place on, and those that come after it.
abbrev pub made_then : {R : Type 0} → ℕ → World → ℕ → Asking R → (World → ℕ → R → List Event) → List Event
made_then seat w place (Done r) after = after w place r
made_then seat w place (Ask a later) after =
    entry_of seat a ∷ made_then seat (step_of w place (entry_of seat a)).world (place + 1) (later (answered (step_of w place (entry_of seat a)))) after

-- ---- all lines
-- the entries of lines, from a world and a place on; the first line has this number, and stands in the lane of this seat
abbrev pub serial_from : List Line → World → ℕ → List Names → Option ℕ → ℕ → List Line → List Event
serial_from s w place names seat number [] = []
serial_from s w place names None number (l ∷ lines) = serial_from s w place names (seat_after (lanes_of s) None l) (suc number) lines
serial_from s w place names (Some seat) number (l ∷ lines) =
    made_then seat w place (line_asks (rules_told s) (header_of s) (names_of names seat) number l)
    (λ v next g. serial_from s v next (renamed names seat l g) (seat_after (lanes_of s) (Some seat) l) (suc number) lines)

-- the names of the lanes at first
abbrev pub first_names : List Line → List Names
first_names s = replicate (length (lanes_of s)) no_names

-- the serial history of a script
unfoldable pub serial : List Line → List Event
serial s = serial_from s (opening_world (config_of s)) 1 (first_names s) None 1 s
