-- The law of reports and histories.
use Rattle.std.specs.Prelude.{◌≡◌, ℕ, true, List, Some}
use Rattle.std.specs.List.{list_all}
use Rattle.ix_model.specs.history.Events.{Event}
use Rattle.ix_script.specs.lines.Before.{lanes_of}
use Rattle.ix_script.specs.scripts.Scripts.{script_of}
use Rattle.ix_text.specs.Names.{is_script_name}
use Rattle.ix_script.specs.declared.line.Line.{Line}
use Rattle.ix_lanes.specs.histories.Lanes.{Lanes}
use Rattle.ix_replay.specs.report.Report.{report_of}

-- the lanes have names as scripts have them, so none with a space
abbrev pub LanesNamed : List Line → Type 0
LanesNamed s = list_all is_script_name (lanes_of s) ≡ true

-- so have the lanes of each script that is read
abbrev pub ScriptsNamed : Type 0
ScriptsNamed = (bytes : List ℕ) (s : List Line) → script_of bytes ≡ Some s → LanesNamed s

-- a report fixes its history
abbrev pub OneHistory : Type 0
OneHistory = (s : List Line) → LanesNamed s → (g h : List Event) → Lanes s g → Lanes s h → report_of s g ≡ report_of s h → g ≡ h
