-- What the report of a script hides of what was written high.
use Rattle.std.specs.Prelude.{◌≡◌, ℕ, ◌+◌, List, ◌++◌, take, Option, Some, slice_get}
use Rattle.ix_label.specs.declared.form.Form.{Form}
use Rattle.ix_label.specs.Category.{Categories}
use Rattle.ix_model.specs.world.World.{World}
use Rattle.ix_model.specs.opening.Opening.{opening_world}
use Rattle.ix_model.specs.history.Step.{run}
use Rattle.ix_model.specs.two_runs.TwoRuns.{Low}
use Rattle.ix_model.specs.history.Events.{Event}
use Rattle.ix_iso.specs.Laws.{NoneCrosses}
use Rattle.ix_iso.specs.Noninterference.{RunsAgree, Noninterferent}
use Rattle.ix_script.specs.lines.Before.{lanes_of}
use Rattle.ix_script.specs.scripts.Scripts.{config_of}
use Rattle.ix_script.specs.declared.line.Line.{Line}
use Rattle.ix_replay.specs.report.Report.{entry_lines, report_of}

-- the world that a script opens
abbrev pub world_opened : List Line → World
world_opened s = opening_world (config_of s)

-- Two scripts of the same lanes, and a history of each, whose runs agree at L: the line of an entry that is low is the same in both reports, in whichever
-- form both are printed, where no entry before it crosses L.
abbrev pub HidesLines : List Line → List Event → Type 0
HidesLines s history = (l : Categories) (t : List Line) (others : List Event) → lanes_of s ≡ lanes_of t → RunsAgree l (world_opened s) (world_opened t) history others →
    (n : ℕ) (e : Event) → slice_get history n ≡ Some e → NoneCrosses l (world_opened s) 1 (take n history) → Low l (run (world_opened s) 1 (take n history)) (1 + n) e →
    (form : Form) → slice_get (entry_lines form (lanes_of s) 1 (world_opened s) history) n ≡ slice_get (entry_lines form (lanes_of t) 1 (world_opened t) others) n

-- What was taken is what was taken before, and after it the report of this history of the script. The history and the lines of the report hide what is high.
pub record TakesNoninterferentReport (s : List Line) (events : List Event) (taken : List ℕ) (after : Option (List ℕ)) : Type 0 where
  pub went_out : after ≡ Some (taken ++ report_of s events)
  pub history : Noninterferent (world_opened s) events
  pub lines : HidesLines s events
