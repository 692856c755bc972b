-- How far a report is on its way out.
use Rattle.std.specs.Prelude.{ℕ, List, ◌++◌, Option}
use Rattle.ix_model.specs.history.History.{History}
use Rattle.ix_model.specs.opening.Opening.{opening_world}
use Rattle.ix_script.specs.lines.Before.{form_told, lanes_of}
use Rattle.ix_script.specs.declared.line.Line.{Line}
use Rattle.ix_replay.specs.report.Report.{entries_text}
use Rattle.ix_host.specs.run.Outlet.{StandsAt}
use Rattle.ix_host.specs.declared.streams.outlet.Failure.{Failure}

-- what was told at first, and then the lines of the entries of a history of a script
abbrev pub told_of : List Line → List ℕ → History → List ℕ
told_of s begun h = begun ++ entries_text (form_told s) (lanes_of s) 1 (opening_world h.config) h.events

-- Of a history of a script all lines were told, unless there was a failure.
pub record HasTold (s : List Line) (begun : List ℕ) (h : History) (why : Option Failure) (first after : Option (List ℕ)) (waiting : List ℕ) (before now : ℕ) : Type 0 where
  pub stands : StandsAt why first after waiting (told_of s begun h) before now
