-- The law of phases.
use Rattle.std.specs.Prelude.{◌≡◌, ℕ, List}
use Rattle.ix_script.specs.declared.line.Line.{Line}
use Rattle.ix_asking.specs.Asking.{Answered}
use Rattle.ix_lanes.specs.histories.Lanes.{calls_of}
use Rattle.ix_script.specs.scripts.Schedule.{phases}
use Rattle.ix_lanes.specs.running.Phases.{calls_before}

-- in all phases of a script a lane asks for what it asks for in all
abbrev pub PhasesAreAll : Type 0
PhasesAreAll = (s : List Line) (seat : ℕ) (answers : List Answered) → calls_before s seat (phases s) answers ≡ calls_of s seat answers
