-- What a history hides of what was written high, and what its entries let down.
use Rattle.std.specs.Prelude.{List}
use Rattle.ix_label.specs.Category.{Categories}
use Rattle.ix_model.specs.world.World.{World}
use Rattle.ix_model.specs.two_runs.TwoRuns.{Alike, Agree}
use Rattle.ix_model.specs.two_runs.EqualLengths.{AlikeInLength, AgreeInLength}
use Rattle.ix_model.specs.history.Events.{Event}
use Rattle.ix_iso.specs.Laws.{Isolated, LowersUnderLog}

-- Two runs agree at L where bytes and statuses alone differ, and only above L. The lengths may differ where the replies are
-- of the same kinds; where they are equal, nothing is asked of the replies.
pub data RunsAgree (l : Categories) (v w : World) (events others : List Event) : Type 0 where
  InKind : Alike l v w → Agree l v w 1 events others → RunsAgree l v w events others
  InLength : AlikeInLength l v w → AgreeInLength l v 1 events others → RunsAgree l v w events others

-- A history that was run from this world hides what is high.
pub record Noninterferent (w : World) (events : List Event) : Type 0 where
  -- each run that agrees with it at a label is isolated from it there: a low process is told the same in both
  pub isolated : (l : Categories) (v : World) (others : List Event) → RunsAgree l w v events others → Isolated l w v 1 events others
  -- what lets something down is licensed and logged, and its line stands in the log at the end: each entry that lowered a label
  pub lowerings : LowersUnderLog w 1 events
