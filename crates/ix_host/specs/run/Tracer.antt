-- How far the lines of a history that tell where bytes came from are on their way out.
use Rattle.std.specs.Prelude.{◌≡◌, ℕ, List, Option, None}
use Rattle.ix_model.specs.history.History.{History}
use Rattle.ix_flow.specs.Tracking.{AreTracks, lines_so_far}
use Rattle.ix_flow.specs.declared.tracks.Tracks.{Tracks}
use Rattle.ix_host.specs.run.Outlet.{StandsAt}
use Rattle.ix_host.specs.declared.streams.outlet.Failure.{Failure}

-- Of a history all lines but the last were told, and the tracks stand for it, unless there was a failure.
pub record HasTraced (tracks : Tracks) (h : History) (why : Option Failure) (first after : Option (List ℕ)) (waiting : List ℕ) (before now : ℕ) : Type 0 where
  pub follows : why ≡ None → AreTracks tracks h
  pub stands : StandsAt why first after waiting (lines_so_far h) before now
