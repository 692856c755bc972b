-- The labels that bytes were written under, and what has let an object down since.
use Rattle.std.specs.Prelude.{ℕ, suc, Bool, false, not, ◌&&◌, ◌==◌, nat_lt, List, [], ◌∷◌, Option, Some, None, if◌then◌else◌}
use Rattle.std.specs.Option.{option_map_or}
use Rattle.ix_label.specs.Category.{Categories, bottom, leq}
use Rattle.ix_model.specs.world.World.{World, Frame, at}
use Rattle.ix_model.specs.opening.Opening.{opening_world}
use Rattle.ix_model.specs.history.AuditLog.{label_at, of_process}
use Rattle.ix_model.specs.history.Step.{step_of}
use Rattle.ix_model.specs.history.Events.{Event}
use Rattle.ix_model.specs.history.History.{History}
use Rattle.ix_flow.specs.Origins.{Origin, Written, InConfig, Gap}

-- whether an object that stands in both frames has in the first a label that isn't at or below the one in the second
unfoldable pub falls : Frame → Frame → ℕ → Bool
falls f g o = option_map_or (λ x. option_map_or (λ y. not (leq x.label y.label)) (at g.objects o) false) (at f.objects o) false

-- the first place after that one at which an entry lowers the label of an object; the first of the entries is at this place
unfoldable pub first_fall : World → ℕ → List Event → ℕ → ℕ → Option ℕ
first_fall w place [] o after = None
first_fall w place (e ∷ events) o after =
    if nat_lt after place && falls w.frame (step_of w place e).world.frame o then Some place
    else first_fall (step_of w place e).world (suc place) events o after

-- the label that the caller of the entry at that place has after it
unfoldable pub caller_label : World → ℕ → List Event → ℕ → Categories
caller_label w place [] that = bottom
caller_label w place (e ∷ events) that =
    if that == place then of_process (λ p. p.label) bottom (step_of w place e).world.frame e.pid
    else caller_label (step_of w place e).world (suc place) events that

-- the label that an origin was written under: the writer's, or that of the file in the config; a gap has none
unfoldable pub label_of : History → Origin → Categories
label_of h (Written place b) = caller_label (opening_world h.config) 1 h.events place
label_of h (InConfig o b) = label_at (opening_world h.config).frame (Some o)
label_of h Gap = bottom

-- the place of a write; what was in the config stands at 0
abbrev pub place_of : Origin → ℕ
place_of (Written place b) = place
place_of _ = 0

-- the first place since at which the object was let down
unfoldable pub via : History → ℕ → Origin → Option ℕ
via h o origin = first_fall (opening_world h.config) 1 h.events o (place_of origin)
