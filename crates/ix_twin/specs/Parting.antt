-- Where two runs part at a label, and of which places before that lines are shown.
use Rattle.std.specs.Prelude.{◌≡◌, ◌⊎◌, ◌≤◌, ◌<◌, ◌-◌, ℕ, suc, Bool, not, ◌&&◌, List, [], ◌∷◌, length, take, Option, Some, None, IfSome, slice_get, if◌then◌else◌}
use Rattle.ix_label.specs.Category.{Categories}
use Rattle.ix_model.specs.world.World.{World}
use Rattle.ix_model.specs.history.Events.{Event}
use Rattle.ix_model.specs.history.Step.{run, step_of}
use Rattle.ix_model.specs.two_runs.TwoRuns.{Agree, Low}
use Rattle.ix_iso.specs.Laws.{NoneCrosses}
use Rattle.ix_twin.specs.Tests.{both_agree, crosses, is_low}

-- ---- what it is
-- one of two histories has a place n, and the other hasn't
abbrev pub OneHasPlace : ℕ → List Event → List Event → Type 0
OneHasPlace n events others = ((n ≤ length events) × (length others < n)) ⊎ ((n ≤ length others) × (length events < n))

-- At a place n, from 1, two histories part, which are run from these worlds: exactly one of them has it, or their first n entries don't agree.
abbrev pub PartAt : Categories → World → World → List Event → List Event → ℕ → Type 0
PartAt l v w events others n = (1 ≤ n) × (OneHasPlace n events others ⊎ (Agree l v w 1 (take n events) (take n others) → ⊥))

-- The least place at which they part, or none where they part nowhere.
abbrev pub IsLeastPart : Categories → World → World → List Event → List Event → Option ℕ → Type 0
IsLeastPart l v w events others None = (n : ℕ) → PartAt l v w events others n → ⊥
IsLeastPart l v w events others (Some n) = PartAt l v w events others n × ((m : ℕ) → PartAt l v w events others m → n ≤ m)

-- A place of the first history, before the one at which the two part: its entry is low, and none before it crosses the label.
pub record IsShown (l : Categories) (v : World) (events : List Event) (n : Option ℕ) (place : ℕ) : Type 0 where
  pub from : 1 ≤ place
  pub before : IfSome n (λ k. place < k)
  pub entry : Event
  pub there : slice_get events (place - 1) ≡ Some entry
  pub low : Low l (run v 1 (take (place - 1) events)) place entry
  pub clear : NoneCrosses l v 1 (take (place - 1) events)

-- each place is above those before it
abbrev pub Rise : ℕ → List ℕ → Type 0
Rise least [] = Unit {0}
Rise least (place ∷ places) = (least ≤ place) × Rise (suc place) places

-- all such places in order
pub record AreShown (l : Categories) (v : World) (events : List Event) (n : Option ℕ) (places : List ℕ) : Type 0 where
  pub rise : Rise 1 places
  pub shown : (index place : ℕ) → slice_get places index ≡ Some place → IsShown l v events n place
  pub all : (place : ℕ) → IsShown l v events n place → (index : ℕ) × (slice_get places index ≡ Some place)

-- ---- how it is found
-- the first place at which two runs part, where they go on with these entries from a place on
unfoldable pub parting : Categories → World → World → ℕ → List Event → List Event → Option ℕ
parting l v w place [] [] = None
parting l v w place [] (d ∷ others) = Some place
parting l v w place (e ∷ events) [] = Some place
parting l v w place (e ∷ events) (d ∷ others) =
    if both_agree l v w place e d then parting l (step_of v place e).world (step_of w place d).world (suc place) events others else Some place

-- the places of which lines are shown; whether no entry crossed the label before
unfoldable pub shown_from : Categories → Bool → World → World → ℕ → List Event → List Event → List ℕ
shown_from l clear v w place [] others = []
shown_from l clear v w place (e ∷ events) [] = []
shown_from l clear v w place (e ∷ events) (d ∷ others) =
    let x = (step_of v place e).world in
    let y = (step_of w place d).world in
    let later = shown_from l (clear && not (crosses l v.frame x.frame)) x y (suc place) events others in
    if both_agree l v w place e d then (if clear && is_low l x.frame e.pid then place ∷ later else later) else []
