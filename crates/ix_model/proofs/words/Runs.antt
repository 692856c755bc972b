-- Runs of histories, one entry longer.
use Rattle.std.proofs.Common.{◌≡◌, ℕ, suc, ◌+◌, List, [], ◌∷◌, ◌++◌, length, refl, ap, ◌∙◌, arith}
use Rattle.ix_model.specs.{world.World.World, opening.Opening.opening_world, declared.config.Config.Config}
use Rattle.ix_model.specs.history.{Step.{step_of, run}, Events.Event, History.{History, world_of, next, with_entry}}

run-push : (w : World) (place : ℕ) (events : List Event) (e : Event) → run w place (events ++ e ∷ []) ≡ (step_of (run w place events) (length events + place) e).world
run-push w place [] e = ap (λ n. (step_of w n e).world) (let z : place ≡ 0 + place = omega arith in z)
run-push w place (x ∷ events) e =
    run-push (step_of w place x).world (suc place) events e
    ∙ ap (λ n. (step_of (run (step_of w place x).world (suc place) events) n e).world) (let z : length events + suc place ≡ suc (length events) + place = omega arith in z)

-- no entry leads to the opening world, and one entry more to what it gives
pub world_of-none : (c : Config) → world_of (record { config = c; events = [] }) ≡ opening_world c
unfolding world_of
world_of-none c = refl

pub world_of-push : (h : History) (e : Event) → world_of (with_entry h e) ≡ (next h e).world
unfolding world_of
world_of-push h e = run-push (opening_world h.config) 1 h.events e
