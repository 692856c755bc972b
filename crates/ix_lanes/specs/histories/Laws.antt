-- The laws of serial histories.
use Rattle.std.specs.Prelude.{◌≡◌, ℕ, ◌≤◌, ◌<◌, List, [], ◌∷◌, ◌++◌, length, All, IfSome}
use Rattle.ix_model.specs.history.Cost.{cost_of_history}
use Rattle.ix_model.specs.history.Spelled.{EventsFit}
use Rattle.ix_script.specs.lines.Before.{form_told, lanes_of}
use Rattle.ix_script.specs.lines.Fits.{LineFits}
use Rattle.ix_script.specs.scripts.Need.{need}
use Rattle.ix_model.specs.history.Events.{Event}
use Rattle.ix_script.specs.declared.line.Line.{Line}
use Rattle.ix_lanes.specs.histories.Lanes.{IsSerial, Lanes, LanesSoFar, calls_of, replies_of}
use Rattle.ix_lanes.specs.histories.Serial.{serial}

-- two serial histories of a script are the same
abbrev pub SerialOne : Type 0
SerialOne = (s : List Line) (g h : List Event) → IsSerial s g → IsSerial s h → g ≡ h

-- the serial history that is defined is a serial history of its script
abbrev pub SerialIsSerial : Type 0
SerialIsSerial = (s : List Line) → IsSerial s (serial s)

-- the calls of a history fit the form of labels that its script tells, where the lines of the script do
abbrev pub HistoriesFit : Type 0
HistoriesFit = (s : List Line) (events : List Event) → All (λ (l : Line). LineFits (form_told s) l) s → Lanes s events → EventsFit (form_told s) events

-- what the calls of a script cost is no more than it needs, where all is answered
abbrev pub NeedFits : Type 0
NeedFits = (s : List Line) (events : List Event) → Lanes s events → cost_of_history events ≤ need s

-- the same of what a run has made so far, with the next call of a lane
abbrev pub NeedFitsSoFar : Type 0
NeedFitsSoFar = (s : List Line) (events : List Event) → LanesSoFar s events → (cost_of_history events ≤ need s)
    × ((seat : ℕ) → seat < length (lanes_of s) → IfSome (calls_of s seat (replies_of s seat events)).next (λ e. cost_of_history (events ++ e ∷ []) ≤ need s))
