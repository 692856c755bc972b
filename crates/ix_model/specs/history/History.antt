-- Histories: the world that one leads to, and what each of its entries gives.
use Rattle.std.specs.Prelude.{ℕ, ◌+◌, ◌-◌, List, [], ◌∷◌, ◌++◌, length, take, Option, slice_get}
use Rattle.std.proofs.Common.{option_map}
use Rattle.ix_model.specs.world.World.{World}
use Rattle.ix_model.specs.opening.Opening.{opening_world}
use Rattle.ix_model.specs.history.Step.{Given, step_of, run}
use Rattle.ix_model.specs.history.Events.{Event}
use Rattle.ix_model.specs.declared.config.Config.{Config}

-- a config, and the entries that were made from its opening world
pub record History : Type 0 where
  pub config : Config
  pub events : List Event

-- the world that a history leads to
unfoldable pub world_of : History → World
world_of h = run (opening_world h.config) 1 h.events

-- what one entry more gives
abbrev pub next : History → Event → Given
next h e = step_of (world_of h) (length h.events + 1) e

-- the history with one entry more
abbrev pub with_entry : History → Event → History
with_entry h e = record h { events = h.events ++ e ∷ [] }

-- what the entry at a place gives, if one stands there; the places are counted from 1
abbrev pub given_at : History → ℕ → Option Given
given_at h place = option_map (step_of (world_of (record h { events = take (place - 1) h.events })) place) (slice_get h.events (place - 1))
