-- The law of two runs that part.
use Rattle.std.specs.Prelude.{true, List}
use Rattle.ix_label.specs.Category.{Categories}
use Rattle.ix_model.specs.world.World.{World}
use Rattle.ix_model.specs.history.Events.{Event}
use Rattle.ix_twin.specs.Parting.{AreShown, IsLeastPart, parting, shown_from}

-- What is found of two runs is the least place at which they part, and the places before it of which lines are shown.
pub record RunsArePartedAt (l : Categories) (v w : World) (events others : List Event) : Type 0 where
  pub least : IsLeastPart l v w events others (parting l v w 1 events others)
  pub shown : AreShown l v events (parting l v w 1 events others) (shown_from l true v w 1 events others)

abbrev pub RunsAreParted : Type 0
RunsAreParted = (l : Categories) (v w : World) (events others : List Event) → RunsArePartedAt l v w events others
