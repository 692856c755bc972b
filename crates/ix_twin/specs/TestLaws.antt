-- The laws of what is tested at each place of two runs.
use Rattle.std.specs.Prelude.{◌≡◌, ℕ, List}
use Rattle.std.specs.Bool.{Decides}
use Rattle.ix_label.specs.Category.{Categories}
use Rattle.ix_model.specs.declared.config.Config.{Config}
use Rattle.ix_model.specs.world.World.{Frame, World}
use Rattle.ix_model.specs.history.AuditLog.{lines_added}
use Rattle.ix_model.specs.history.Events.{Event}
use Rattle.ix_model.specs.history.Lowering.{Crosses}
use Rattle.ix_model.specs.history.Step.{step_of}
use Rattle.ix_model.specs.two_runs.TwoRuns.{AgreeAt, IsHigh, IsLow}
use Rattle.ix_iso.specs.Configs.{DifferAbove}
use Rattle.ix_iso.specs.Laws.{NoneCrosses}
use Rattle.ix_twin.specs.Configs.{differ_above}
use Rattle.ix_twin.specs.Tests.{agrees, crosses, is_high, is_low, none_crosses, tells_crossing}

-- each test is true exactly where what it is of holds
pub record TestsAreExact : Type 0 where
  pub low : (l : Categories) (f : Frame) (pid : ℕ) → Decides (is_low l f pid) (IsLow l f pid)
  pub high : (l : Categories) (f : Frame) (pid : ℕ) → Decides (is_high l f pid) (IsHigh l f pid)
  pub crossing : (l : Categories) (f g : Frame) → Decides (crosses l f g) (Crosses l f g)
  pub clear : (l : Categories) (w : World) (place : ℕ) (events : List Event) → Decides (none_crosses l w place events) (NoneCrosses l w place events)
  pub agreeing : (l : Categories) (f : Frame) (e d : Event) → Decides (agrees l f e d) (AgreeAt l f e d)
  pub configs : (l : Categories) (c d : Config) → Decides (differ_above l c d) (DifferAbove l c d)

-- the lines that an entry adds to the log tell whether it crosses a label
abbrev pub TheLogTellsCrossings : Type 0
TheLogTellsCrossings = (l : Categories) (w : World) (place : ℕ) (e : Event) → crosses l w.frame (step_of w place e).world.frame ≡ tells_crossing l (lines_added w place e)
