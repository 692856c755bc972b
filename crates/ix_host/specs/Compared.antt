-- What `twin` answers of two scripts that are compared at a label.
use Rattle.std.specs.Prelude.{◌≡◌, ℕ, List, ◌++◌, Option, Some}
use Rattle.ix_label.specs.Category.{Categories}
use Rattle.ix_script.specs.declared.line.Line.{Line}
use Rattle.ix_lanes.specs.histories.Serial.{serial}
use Rattle.ix_twin.specs.Lines.{IsParting, line_at, text_of, world_opened}
use Rattle.ix_twin.specs.Parting.{AreShown, IsShown}

-- What was taken is what was taken before, and after it the text of two scripts: whether their serial runs agree at a label, or the least place at which
-- they part, and the lines of both at each place before that at which a low entry stands, and before which nothing crosses the label. These lines are equal.
pub record TakesTwins (l : Categories) (s t : List Line) (taken : List ℕ) (after : Option (List ℕ)) : Type 0 where
  pub parting : Option ℕ
  pub is : IsParting l s t parting
  pub places : List ℕ
  pub are : AreShown l (world_opened s) (serial s) parting places
  pub went_out : after ≡ Some (taken ++ text_of s t parting places)
  pub equal : (place : ℕ) → IsShown l (world_opened s) (serial s) parting place → line_at s place ≡ line_at t place
