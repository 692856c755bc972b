-- The histories that the lanes of a script can make, where each phase begins when the one before has ended.
use Rattle.std.specs.Prelude.{◌≡◌, ℕ, ◌-◌, nat_le, Bool, true, ◌&&◌, List, [], ◌∷◌, take, count_by}
use Rattle.ix_model.specs.history.Events.{Event}
use Rattle.ix_script.specs.declared.line.Line.{Line}
use Rattle.ix_lanes.specs.histories.Lanes.{Lanes}
use Rattle.ix_script.specs.lines.Before.{is_phase}

-- The phase in which the line of a number stands: they are numbered from 0, and each `phase` line begins one. The lines before the first of these
-- belong to phase 0, too.
unfoldable pub phase_of : List Line → ℕ → ℕ
phase_of s number = count_by is_phase (take number s) - 1

-- along the entries the phases of their lines never fall
abbrev pub phases_never_fall : List Line → List Event → Bool
phases_never_fall s [] = true
phases_never_fall s (e ∷ []) = true
phases_never_fall s (e ∷ f ∷ events) = nat_le (phase_of s e.line) (phase_of s f.line) && phases_never_fall s (f ∷ events)

-- A history of a script, in whatever order the lanes of a phase take turns: it holds each lane's calls in order, and those of a phase before those
-- of the next one.
pub record IsHistory (s : List Line) (events : List Event) : Type 0 where
  pub lanes : Lanes s events
  pub order : phases_never_fall s events ≡ true
