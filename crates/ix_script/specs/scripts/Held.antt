-- What holds of every script.
use Rattle.std.specs.Prelude.{◌≡◌, ℕ, ◌≤◌, true, List, [], length, map, slice_get, slice_index_or}
use Rattle.std.specs.declared.vec.Vec.{Vec}
use Rattle.std.specs.Vec.{vec_items}
use Rattle.ix_model.specs.opening.Valid.{is_valid}
use Rattle.ix_script.specs.lines.Before.{lanes_of, commands, fss_told, limits_of, procs_of, objects_of}
use Rattle.ix_script.specs.scripts.Schedule.{LanesOnce, phases, seat_begun, seat_marked, stretches_from}
use Rattle.ix_script.specs.scripts.Scripts.{config_of}
use Rattle.ix_script.specs.declared.line.Line.{Line}
use Rattle.ix_script.specs.declared.plan.Plan.{Plan}
use Rattle.ix_script.specs.declared.schedule.Schedule.{Schedule}
use Rattle.ix_script.specs.declared.schedule.Stretch.{Stretch}

-- its lanes are kept, its config is valid, and it has at most 16,777,216 lines, 200,000 commands and 64 lanes,
-- each at most once in a phase
pub record IsScript (lines : List Line) (names : List (List ℕ)) : Type 0 where
  pub lanes : names ≡ lanes_of lines
  pub valid : is_valid (config_of lines) ≡ true
  pub few : length lines ≤ 16777216
  pub few_commands : commands lines ≤ 200000
  pub few_lanes : length (lanes_of lines) ≤ 64
  pub once : LanesOnce lines

-- the stretches of a seat, among those of each
abbrev pub own_of : {Z : Type 0} → List (Vec Stretch Z) → ℕ → List Stretch
own_of all seat = slice_index_or (map vec_items all) seat []

-- the schedule of lines whose lanes have these names
pub record IsSchedule (s : Schedule) (lines : List Line) (names : List (List ℕ)) : Type 0 where
  pub phases : s.phases ≡ phases lines
  pub stretches : (seat : ℕ) → own_of s.stretches.items seat ≡ stretches_from names seat 0 0 lines
  pub seats : (i : ℕ) → seat_marked (slice_index_or s.seats.items i 255) ≡ seat_begun names (slice_get lines i)

-- what lines tell of the machine that starts
pub record IsPlan (p : Plan) (lines : List Line) : Type 0 where
  pub fss : p.fss ≡ fss_told lines
  pub limits : p.limits ≡ limits_of lines
  pub procs : p.procs ≡ procs_of lines
  pub objects : p.objects ≡ objects_of lines
