-- What one seat has made of a history, and histories in which it alone goes on.
use Rattle.std.specs.Prelude.{◌≡◌, ℕ, suc, ◌==◌, true, List, [], ◌∷◌, ◌++◌}
use Rattle.std.specs.List.{filter, list_all}
use Rattle.ix_model.specs.world.World.{World}
use Rattle.ix_model.specs.opening.Opening.{opening_world}
use Rattle.ix_model.specs.history.Step.{Given, step_of}
use Rattle.ix_model.specs.history.Events.{Event}
use Rattle.ix_model.specs.history.History.{History}
use Rattle.ix_model.specs.history.Made.{Made}

-- an entry with what a step gave it
abbrev pub made_of : Event → Given → Made
made_of e given = record { event = e; reply = given.reply; bytes = given.bytes }

-- each entry of a history with the reply and the bytes that its run gives; the first entry is at this place
abbrev pub replied : World → ℕ → List Event → List Made
replied w place [] = []
replied w place (e ∷ events) = made_of e (step_of w place e) ∷ replied (step_of w place e).world (suc place) events

-- those of one seat, from the config's opening world
unfoldable pub made_by : ℕ → History → List Made
made_by seat h = filter (λ m. m.event.seat == seat) (replied (opening_world h.config) 1 h.events)

-- a history, and what comes of it where one seat alone makes entries
pub record GoesOn (seat : ℕ) (old new : History) : Type 0 where
  pub config : new.config ≡ old.config
  pub more : List Event
  pub events : new.events ≡ old.events ++ more
  pub own : list_all (λ e. e.seat == seat) more ≡ true
