-- What two runs are asked at each place: who is low, what crosses a label, and whether they agree.
use Rattle.std.specs.Prelude.{ℕ, suc, Bool, true, false, not, ◌&&◌, ◌||◌, List, [], ◌∷◌, Option, Some}
use Rattle.std.specs.Option.{option_map_or}
use Rattle.ix_label.specs.Category.{Categories, leq}
use Rattle.ix_model.specs.world.World.{World, Frame, Object, Process, at, living}
use Rattle.ix_model.specs.history.Events.{Event}
use Rattle.ix_model.specs.history.Step.{step_of}
use Rattle.ix_model.specs.two_runs.TwoRuns.{is_one_kind}
use Rattle.ix_model.specs.declared.audit.Act.{Act}
use Rattle.ix_model.specs.declared.audit.Act.TheVariants as act
use Rattle.ix_model.specs.declared.audit.AuditLine.{AuditLine}
use Rattle.ix_twin.specs.Sameness.{same_entry_but_given, same_given}

-- ---- who is low
-- a living process whose label is at or below L
abbrev pub is_low : Categories → Frame → ℕ → Bool
is_low l f pid = option_map_or (λ (p : Process). leq p.label l) (living (at f.processes pid)) false

-- one whose label isn't
abbrev pub is_high : Categories → Frame → ℕ → Bool
is_high l f pid = option_map_or (λ (p : Process). not (leq p.label l)) (living (at f.processes pid)) false

-- ---- what crosses a label
-- a label that isn't at or below L becomes one that is
abbrev pub falls_below : Categories → Categories → Categories → Bool
falls_below l was now = not (leq was l) && leq now l

-- so does the label of something that stands in two tables, at one number
unfoldable pub some_falls_below : {A : Type 0} → (A → Categories) → Categories → List (Option A) → List (Option A) → Bool
some_falls_below label l [] ys = false
some_falls_below label l (x ∷ xs) [] = false
some_falls_below label l (Some x ∷ xs) (Some y ∷ ys) = falls_below l (label x) (label y) || some_falls_below label l xs ys
some_falls_below label l (x ∷ xs) (y ∷ ys) = some_falls_below label l xs ys

-- of an object, or of a process
unfoldable pub crosses : Categories → Frame → Frame → Bool
crosses l f g = some_falls_below (λ (x : Object). x.label) l f.objects g.objects || some_falls_below (λ (p : Process). p.label) l f.processes g.processes

-- ---- whether two runs agree
-- two entries are equal; or a process that isn't at or below L writes other bytes, or exits with another status
unfoldable pub agrees : Categories → Frame → Event → Event → Bool
agrees l f e d = same_entry_but_given e d && (same_given e.op d.op || is_high l f e.pid)

-- two entries agree, and their replies are of one kind
abbrev pub both_agree : Categories → World → World → ℕ → Event → Event → Bool
both_agree l v w place e d = agrees l v.frame e d && is_one_kind (step_of v place e).reply (step_of w place d).reply

-- whether no entry of a history crosses L; the first is at this place
unfoldable pub none_crosses : Categories → World → ℕ → List Event → Bool
none_crosses l w place [] = true
none_crosses l w place (e ∷ events) = not (crosses l w.frame (step_of w place e).world.frame) && none_crosses l (step_of w place e).world (suc place) events

-- ---- what the log tells
-- whether an act lets something down
abbrev pub lets_down : Act → Bool
lets_down act.DownFile = true
lets_down act.DownSelf = true
lets_down _ = false

-- whether the first of these lines tells of something that was let down across L
abbrev pub tells_crossing : Categories → List AuditLine → Bool
tells_crossing l [] = false
tells_crossing l (line ∷ lines) = lets_down line.act && falls_below l line.was line.now
