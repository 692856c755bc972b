-- The fields of a run of a lane.
use Rattle.std.specs.Prelude.{◌≡◌, ℕ, ◌<◌, Bool, true, List, length, Option}
use Rattle.std.specs.List.{list_all}
use Rattle.ix_script.specs.lines.Before.{lanes_of}
use Rattle.ix_script.specs.declared.line.Line.{Line}
use Rattle.ix_lanes.specs.declared.asking.places.Places.{Places}
use Rattle.ix_lanes.specs.asking.Asked.{Numbers}
use Rattle.ix_lanes.specs.asking.Places.{has_places}
use Rattle.ix_lanes.specs.histories.Serial.{header_of}
use Rattle.ix_script.specs.scripts.Schedule.{Numbered}
use Rattle.ix_lanes.specs.asking.Ruled.{rules_told}
use Rattle.ix_policy.specs.declared.rule.Rule.{Rule}
use Rattle.ix_lanes.specs.running.Left.{LaneLeft, asks_left, is_done}
use Rattle.ix_lanes.specs.running.Phases.{lane_among, lines_before}

-- each name that one of these lines gives has its place
abbrev pub all_placed : Places → List Numbered → Bool
all_placed places lines = list_all (λ (l : Numbered). has_places places l.said) lines

-- The tables of a lane are those of its script, and its policy is the script's. Each name that a line of the lane gives has its place.
pub record AreFields (s : List Line) (seat : ℕ) (procs : Numbers) (names : Places) (rules : Option (List Rule)) : Type 0 where
  pub header : procs ≡ header_of s
  pub places : all_placed names (lane_among s seat s) ≡ true
  pub ruled : rules ≡ rules_told s

-- Between two phases a run asks for nothing up to the end of those that are done.
pub record IsRun (s : List Line) (phases_done : ℕ) (calls : LaneLeft) : Type 0 where
  pub script : calls.script ≡ s
  pub lane : calls.seat < length (lanes_of s)
  pub end : is_done (asks_left calls) ≡ true → calls.end ≡ length (lines_before phases_done s)
