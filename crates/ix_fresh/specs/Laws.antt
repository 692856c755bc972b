-- The laws of freshness.
use Rattle.std.specs.Prelude.{◌≡◌, ℕ, Bool, true, false, not, ◌&&◌, ◌||◌, ◌==◌, ◌+◌, List, [], ◌∷◌, ◌++◌, length, Option, Some, None, is_some, if◌then◌else◌}
use Rattle.std.proofs.Common.{option_map}
use Rattle.ix_model.specs.world.World.{World, Frame}
use Rattle.ix_model.specs.rows.Walks.{OpenFile, behind}
use Rattle.ix_model.specs.history.Freshness.{Way, refreshes, closes, fresh_after, is_fresh}
use Rattle.ix_model.specs.history.Step.{step_of, run}
use Rattle.ix_model.specs.history.Events.{Event}
use Rattle.ix_model.specs.laws.Sound.{Sound}
use Rattle.ix_fresh.specs.Known.{Known, ChangeNothing}
use Rattle.ix_fresh.specs.Touched.{Stays, LabelsStayBut, object_behind, entry_behind, touches}

-- what is known of every descriptor that is fresh after a history of a sound world
abbrev pub FreshMeansKnown : Type 0
FreshMeansKnown = (w : World) (events : List Event) (pid fd : ℕ) (way : Way) → Sound w → is_fresh w events pid fd way ≡ true → Known way (run w 1 events).frame pid fd

-- where that is known, the two rules that a call that way goes by change nothing
abbrev pub KnownChangesNothing : Type 0
KnownChangesNothing = (way : Way) (f : Frame) (pid fd : ℕ) (k : Known way f pid fd) → ChangeNothing way f pid k.process k.object k.entry

-- whether an entry closes a descriptor
abbrev pub is_closed : World → ℕ → Event → ℕ → ℕ → Bool
is_closed w place e pid fd = e.pid == pid && closes fd e.op (step_of w place e).reply

-- what stands behind a descriptor stays there, unless it is closed
abbrev pub DescriptorsStay : Type 0
DescriptorsStay = (w : World) (place : ℕ) (e : Event) (pid fd : ℕ) (b : OpenFile) → Sound w → behind w.frame pid fd ≡ Some b
    → is_closed w place e pid fd ≡ false → Stays b w.frame (step_of w place e).world.frame pid fd

-- and its labels too, but for the process's where it made the call, and for those of the object and of the open entry that
-- the call may touch
abbrev pub WhereLabelsChange : Type 0
WhereLabelsChange = (w : World) (place : ℕ) (e : Event) (pid fd : ℕ) (b : OpenFile) → Sound w → behind w.frame pid fd ≡ Some b
    → is_closed w place e pid fd ≡ false → LabelsStayBut b w.frame e (step_of w place e).world.frame pid

-- So an entry leaves a descriptor fresh, of whichever process it is, by who called, whether the call refreshed or closed it,
-- and whether it changed the label of the caller, of the target, or of the open entry.
abbrev pub fresh_by_touch : World → ℕ → Event → ℕ → ℕ → Way → Bool → Bool
fresh_by_touch w place e pid fd way was =
    e.pid == pid && refreshes way fd e.op (step_of w place e).reply
    || was && not (is_closed w place e pid fd) && not (touches w.frame e (step_of w place e).world.frame pid (object_behind w.frame pid fd) (entry_behind w.frame pid fd))

-- whatever was fresh before, of descriptors that stood
abbrev pub FreshnessByWhatWasTouched : Type 0
FreshnessByWhatWasTouched = (w : World) (place : ℕ) (e : Event) (pid fd : ℕ) (way : Way) (was : Bool) → Sound w
    → (was ≡ true → is_some (behind w.frame pid fd) ≡ true) → fresh_after w e (step_of w place e) pid fd way was ≡ fresh_by_touch w place e pid fd way was

-- of all descriptors, along a history
abbrev pub FreshnessAlongHistories : Type 0
FreshnessAlongHistories = (w : World) (events : List Event) (e : Event) (pid fd : ℕ) (way : Way) → Sound w
    → is_fresh w (events ++ e ∷ []) pid fd way ≡ fresh_by_touch (run w 1 events) (length events + 1) e pid fd way (is_fresh w events pid fd way)

-- ---- spots
-- the spot of a descriptor: the open entry and the object behind it, by their numbers
pub record Spot : Type 0 where
  pub entry : ℕ
  pub object : ℕ

abbrev pub spot_behind : Frame → ℕ → ℕ → Option Spot
spot_behind f pid fd = option_map (λ b. record { entry = b.id; object = b.entry.object }) (behind f pid fd)

-- the spot of a descriptor that is fresh after a history
abbrev pub fresh_spot : World → List Event → ℕ → ℕ → Way → Option Spot
fresh_spot w events pid fd way = if is_fresh w events pid fd way then spot_behind (run w 1 events).frame pid fd else None

-- a spot that doesn't pass
abbrev pub unless : (Spot → Bool) → Option Spot → Option Spot
unless test None = None
unless test (Some s) = if test s then None else Some s

-- what an entry makes of a fresh descriptor's spot: a refreshed descriptor has its own, a closed one has none, and no other
-- stays fresh whose process, object or open entry has another label now
abbrev pub spot_after : World → ℕ → Event → ℕ → ℕ → Way → Option Spot → Option Spot
spot_after w place e pid fd way was =
    if e.pid == pid && refreshes way fd e.op (step_of w place e).reply then spot_behind w.frame pid fd
    else if is_closed w place e pid fd then None
    else unless (λ s. touches w.frame e (step_of w place e).world.frame pid (Some s.object) (Some s.entry)) was

abbrev pub SpotsAlongHistories : Type 0
SpotsAlongHistories = (w : World) (events : List Event) (e : Event) (pid fd : ℕ) (way : Way) → Sound w
    → fresh_spot w (events ++ e ∷ []) pid fd way ≡ spot_after (run w 1 events) (length events + 1) e pid fd way (fresh_spot w events pid fd way)
