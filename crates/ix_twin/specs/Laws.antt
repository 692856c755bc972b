-- The laws of two scripts that are compared at a label.
use Rattle.std.specs.Prelude.{◌≡◌, ℕ, List, Option}
use Rattle.ix_label.specs.Category.{Categories}
use Rattle.ix_model.specs.two_runs.TwoRuns.{Alike}
use Rattle.ix_script.specs.declared.line.Line.{Line}
use Rattle.ix_lanes.specs.histories.Serial.{serial}
use Rattle.ix_twin.specs.Lines.{BeginAlike, IsParting, line_at, parting_of, shown_of, world_opened}
use Rattle.ix_twin.specs.Parting.{AreShown, IsShown}

-- where two scripts are found to part they part, and the places that are found are those of which lines are shown
pub record TwinsAreCompared : Type 0 where
  pub parting : (l : Categories) (s t : List Line) → IsParting l s t (parting_of l s t)
  pub shown : (l : Categories) (s t : List Line) → AreShown l (world_opened s) (serial s) (parting_of l s t) (shown_of l s t)

-- scripts that begin alike at a label open worlds that are alike at it
abbrev pub BeginningsAreAlike : Type 0
BeginningsAreAlike = (l : Categories) (s t : List Line) → BeginAlike l s t → Alike l (world_opened s) (world_opened t)

-- at each place that is shown, the lines of both reports are equal
abbrev pub TwinLines : Type 0
TwinLines = (l : Categories) (s t : List Line) (n : Option ℕ) (place : ℕ) → IsParting l s t n → IsShown l (world_opened s) (serial s) n place → line_at s place ≡ line_at t place
