-- The laws of the machine's worlds: which are sound and clean, and what a refusal leaves.
use Rattle.std.specs.Prelude.{◌≡◌, ◌≤◌, ◌<◌, ◌==◌, ℕ, true, false, List, ◌++◌, length, Some, None, is_some}
use Rattle.ix_label.specs.Category.{join}
use Rattle.ix_model.specs.world.Naming.{PathOf}
use Rattle.ix_model.specs.rows.Refusals.{keeps_label}
use Rattle.ix_model.specs.world.World.{Frame, World, Object, Process, at, change, lives}
use Rattle.ix_model.specs.world.Numbers.{first_pipe}
use Rattle.ix_model.specs.world.Contents.{holding_of, holds_nothing, side}
use Rattle.ix_model.specs.history.AuditLog.{audit_log}
use Rattle.ix_model.specs.laws.WholePaths.{IsEndOf, written_to}
use Rattle.ix_model.specs.rows.Outcomes.{Pass}
use Rattle.ix_model.specs.rows.Walks.{OpenFile, behind, object_at}
use Rattle.ix_model.specs.history.Step.{step, run, is_whole}
use Rattle.ix_model.specs.opening.Opening.{opening_world}
use Rattle.ix_model.specs.opening.Valid.{is_valid}
use Rattle.ix_model.specs.laws.Looked.{looked_at}
use Rattle.ix_model.specs.laws.Clean.{IsClean}
use Rattle.ix_model.specs.laws.Sound.{Sound}
use Rattle.ix_model.specs.history.Events.{Op, Event}
use Rattle.ix_model.specs.declared.config.Config.{Config}
use Rattle.ix_model.specs.declared.reply.Reply.TheVariants as reply
use Rattle.ix_model.specs.declared.refusal.Refusal.{Refusal}

-- ---- sound worlds
-- the opening world of every valid config is sound
abbrev pub OpeningWorldsAreSound : Type 0
OpeningWorldsAreSound = (c : Config) → is_valid c ≡ true → Sound (opening_world c)

-- the opening world of every config is clean
abbrev pub OpeningWorldsAreClean : Type 0
OpeningWorldsAreClean = (c : Config) → IsClean (opening_world c)

-- every call leaves a sound world sound
abbrev pub StepsKeepWorldsSound : Type 0
StepsKeepWorldsSound = (w : World) (place pid : ℕ) (o : Op) → Sound w → Sound (step w place pid o).world

-- every call leaves a clean world clean
abbrev pub StepsKeepWorldsClean : Type 0
StepsKeepWorldsClean = (w : World) (place pid : ℕ) (o : Op) → IsClean w → IsClean (step w place pid o).world

-- whatever is called, from a valid config's opening world sound worlds alone are reached
abbrev pub ReachedWorldsAreSound : Type 0
ReachedWorldsAreSound = (c : Config) (h : List Event) → is_valid c ≡ true → Sound (run (opening_world c) 1 h)

-- whatever is called, clean worlds alone are reached
abbrev pub ReachedWorldsAreClean : Type 0
ReachedWorldsAreClean = (c : Config) (h : List Event) → IsClean (run (opening_world c) 1 h)

-- ---- refusals
-- a refusal that keeps a raised label leaves the frame as before but for the caller's label, which is joined with what the
-- call had looked at; every other one leaves it as before; and what a clean world holds stays
pub record Refused (w : World) (pid : ℕ) (c : Op) (r : Refusal) (v : World) : Type 0 where
  pub label : keeps_label r ≡ true → v.frame ≡ record w.frame { processes = change w.frame.processes pid (λ p. record p { label = join p.label (looked_at w.frame pid c r) }) }
  pub kept : keeps_label r ≡ false → v.frame ≡ w.frame
  pub content : IsClean w → v.content ≡ w.content

abbrev pub RefusalsLeaveWorlds : Type 0
RefusalsLeaveWorlds = (w : World) (place pid : ℕ) (o : Op) (r : Refusal) → (step w place pid o).reply ≡ reply.No r → Refused w pid o r (step w place pid o).world

-- ---- objects
-- an object stands behind each descriptor of a living process, and wherever a path is found to lead
pub record ObjectsThere (w : World) : Type 0 where
  pub behind : (pid fd : ℕ) (e : OpenFile) → behind w.frame pid fd ≡ Some e → is_some (at w.frame.objects e.entry.object) ≡ true
  pub object_at : (pid o : ℕ) (path : PathOf) (g : Frame) → object_at pid path w.frame ≡ Pass o g → is_some (at g.objects o) ≡ true

abbrev pub ObjectsAreThere : Type 0
ObjectsAreThere = (w : World) → Sound w → ObjectsThere w

-- ---- labels
-- from one frame to the next the labels are as they were, but for the caller's and for one object's at most
pub record LabelsStay (pid : ℕ) (f g : Frame) : Type 0 where
  pub touched : ℕ
  pub objects : (o : ℕ) (x y : Object) → (o == touched) ≡ false → at f.objects o ≡ Some x → at g.objects o ≡ Some y → y.label ≡ x.label
  pub processes : (p : ℕ) (x y : Process) → (p == pid) ≡ false → at f.processes p ≡ Some x → at g.processes p ≡ Some y → y.label ≡ x.label

-- a call changes the label of the caller and of one object that was there, and no other
abbrev pub CallsTouchFewLabels : Type 0
CallsTouchFewLabels = (w : World) (place pid : ℕ) (o : Op) → LabelsStay pid w.frame (step w place pid o).world.frame

-- ---- the audit log
-- the log after a history is the log before it and the lines of its licensed entries
abbrev pub TheLogIsTheLicensedActs : Type 0
TheLogIsTheLicensedActs = (w : World) (place : ℕ) (h : List Event) → (run w place h).frame.log ≡ w.frame.log ++ audit_log w place h

-- ---- pids
-- a pid at which nothing stands any more is never used again, and an ended process never lives again
pub record PidsSpent (f g : Frame) : Type 0 where
  pub grown : length f.processes ≤ length g.processes
  pub gone : (p : ℕ) → p < length f.processes → at f.processes p ≡ None → at g.processes p ≡ None
  pub ended : (p : ℕ) → lives f p ≡ false → p < length f.processes → lives g p ≡ false

abbrev pub PidsAreNeverUsedAgain : Type 0
PidsAreNeverUsedAgain = (w : World) (place : ℕ) (h : List Event) → PidsSpent w.frame (run w place h).frame

-- ---- whole paths
-- a call that makes a path whole leaves it empty
abbrev pub WholePathsBeginEmpty : Type 0
WholePathsBeginEmpty = (w : World) (place pid : ℕ) (c : Op) (o : ℕ) → is_whole w.frame o ≡ false → is_whole (step w place pid c).world.frame o ≡ true
    → holding_of (step w place pid c).world.content o ≡ holds_nothing

-- what a pipe that was empty holds after a history was written in it: the last bytes that were written to that end
abbrev pub PipesHoldWhatWasWritten : Type 0
PipesHoldWhatWasWritten = (w : World) (place : ℕ) (h : List Event) (o end : ℕ) → Sound w → first_pipe w.frame.fss ≤ o → end ≤ 1
    → holding_of w.content o ≡ holds_nothing → IsEndOf (side end (holding_of (run w place h).content o)) (written_to w place h o end)
