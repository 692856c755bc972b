-- What `flow` tells, and what is promised of it.
use Rattle.std.specs.Prelude.{◌≡◌, ℕ, List, ◌++◌, ◌∷◌, Option, Some}
use Rattle.ix_model.specs.history.Events.{Event}
use Rattle.ix_script.specs.declared.line.Line.{Line}
use Rattle.ix_script.specs.scripts.Scripts.{config_of}
use Rattle.ix_lanes.specs.histories.Serial.{serial}
use Rattle.ix_flow.specs.Laws.{ArePiecesAccountedFor}
use Rattle.ix_host.specs.Traces.{traces}

-- What was taken is what was taken before, and after it the lines of the script's serial history. In each of them the label is at or below the reader's after
-- the read; or it names the first entry that let the object down since, of which the log has a line; or it is of a gap.
pub record TakesTraces (s : List Line) (taken : List ℕ) (after : Option (List ℕ)) : Type 0 where
  pub went_out : after ≡ Some (taken ++ traces s)
  pub accounted : (before : List Event) (e : Event) (rest : List Event) → serial s ≡ before ++ e ∷ rest → ArePiecesAccountedFor (record { config = config_of s; events = before }) e
