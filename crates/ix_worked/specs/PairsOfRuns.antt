-- The words on two runs, on fresh descriptors and on lowerings, said of histories from a config's opening world.
use Rattle.std.specs.Prelude.{◌≡◌, ℕ, suc, ◌==◌, ◌-◌, Bool, true, false, List, [], ◌∷◌, map, take, length, codes}
use Rattle.std.specs.List.{range_with_len}
use Rattle.ix_label.specs.Category.{Categories}
use Rattle.ix_model.specs.world.World.{World}
use Rattle.ix_model.specs.opening.Opening.{opening_world}
use Rattle.ix_model.specs.history.Step.{step_of, run}
use Rattle.ix_model.specs.history.Events.{Op, Event}
use Rattle.ix_model.specs.history.Events as op
use Rattle.ix_model.specs.two_runs.EqualLengths.{AgreeInLength}
use Rattle.ix_model.specs.history.Freshness.{Way, is_fresh}
use Rattle.ix_model.specs.history.Lowering.{Lowered, Crosses}
use Rattle.ix_model.specs.two_runs.TwoRuns.{Agree, Low}
use Rattle.ix_model.specs.declared.call.Keep.TheVariants as keep
use Rattle.ix_model.specs.declared.call.Mode.TheVariants as mode
use Rattle.ix_model.specs.declared.config.Config.{Config}
use Rattle.ix_worked.specs.Scripts.{seven, in_root, by}

-- the world before the entry at a place, and after it; places are counted from 1
abbrev pub before : Config → List Event → ℕ → World
before c events place = run (opening_world c) 1 (take (place - 1) events)

abbrev pub after : Config → List Event → ℕ → World
after c events place = run (opening_world c) 1 (take place events)

-- ---- two histories
-- both run from the opening world, and agree at L
abbrev pub BothAgree : Categories → Config → List Event → List Event → Type 0
BothAgree l c events others = Agree l (opening_world c) (opening_world c) 1 events others

-- the same where what is replaced keeps its length
abbrev pub BothAgreeInLength : Categories → Config → List Event → List Event → Type 0
BothAgreeInLength l c events others = AgreeInLength l (opening_world c) 1 events others

-- ---- low reads
abbrev pub is_read : Op → Bool
is_read (op.ReadFd fd count) = true
is_read o = false

-- an entry is a low read, or it isn't
abbrev pub LowRead : Bool → Categories → World → ℕ → Event → Type 0
LowRead true l w place e = (is_read e.op ≡ true) × Low l w place e
LowRead false l w place e = (is_read e.op ≡ true) → Low l w place e → ⊥

-- the entry at the chosen place is a low read, and no other entry is; the first entry is at this place
abbrev pub LowReadAlone : Categories → ℕ → World → ℕ → List Event → Type 0
LowReadAlone l chosen w place [] = Unit {0}
LowReadAlone l chosen w place (e ∷ events) = LowRead (place == chosen) l w place e × LowReadAlone l chosen (step_of w place e).world (suc place) events

-- ---- fresh descriptors
-- whether a descriptor of a process is fresh after the first entry, after the second, and so on
abbrev pub fresh_along : Config → List Event → ℕ → ℕ → Way → List Bool
fresh_along c events pid fd way = map (λ n. is_fresh (opening_world c) (take n events) pid fd way) (range_with_len 1 (length events))

-- ---- lowerings
-- no entry lowers a label; the first entry is at this place
abbrev pub LowersNowhere : World → ℕ → List Event → Type 0
LowersNowhere w place [] = Unit {0}
LowersNowhere w place (e ∷ events) = (Lowered w.frame (step_of w place e).world.frame → ⊥) × LowersNowhere (step_of w place e).world (suc place) events

-- no entry crosses L
abbrev pub CrossesNowhere : Categories → World → ℕ → List Event → Type 0
CrossesNowhere l w place [] = Unit {0}
CrossesNowhere l w place (e ∷ events) = (Crosses l w.frame (step_of w place e).world.frame → ⊥) × CrossesNowhere l (step_of w place e).world (suc place) events

-- ---- short histories
-- a low process writes
abbrev pub writing_low : List ℕ → List Event
writing_low bytes = by 1 (op.OpenAt (in_root (codes "n")) mode.Write) ∷ by 1 (op.WriteFd 0 bytes) ∷ []

-- a child ends with a status, at 7
abbrev pub leaving_high : ℕ → List Event
leaving_high status = by 1 (op.Fork keep.Nothing) ∷ by 2 (op.SetSelf seven) ∷ by 2 (op.Exit status) ∷ []
