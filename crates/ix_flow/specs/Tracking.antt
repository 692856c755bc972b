-- What tracks stand for: where what objects hold came from, after a history.
use Rattle.std.specs.Prelude.{◌≡◌, ◌≤◌, ◌<◌, ℕ, suc, ◌+◌, ◌*◌, ◌^◌, ◌==◌, Bool, true, false, List, [], ◌∷◌, ◌++◌, length, Option, Some, None, is_some, slice_get, if◌then◌else◌}
use Rattle.std.specs.BTreeMap.{get}
use Rattle.std.specs.Ordering.{nat_cmp}
use Rattle.ix_label.specs.Category.{Categories}
use Rattle.ix_model.specs.world.World.{World, HoldingOf, Object, at, is_pipe}
use Rattle.ix_model.specs.world.Contents.{held_at, side}
use Rattle.ix_model.specs.laws.Sound.{Sound}
use Rattle.ix_model.specs.opening.Opening.{opening_world}
use Rattle.ix_model.specs.history.Step.{step_of}
use Rattle.ix_model.specs.history.Events.{Event}
use Rattle.ix_model.specs.history.History.{History, world_of, with_entry}
use Rattle.ix_flow.specs.declared.falls.Falls.{Falls}
use Rattle.ix_flow.specs.declared.side.Side.{Side}
use Rattle.ix_flow.specs.declared.sides.Sides.{Sides}
use Rattle.ix_flow.specs.declared.sides.Written.{Written}
use Rattle.ix_flow.specs.declared.source.Source.{Source}
use Rattle.ix_flow.specs.declared.source.Source.TheVariants as source
use Rattle.ix_flow.specs.declared.tracks.Tracks.{Tracks}
use Rattle.ix_flow.specs.Origins as origin
use Rattle.ix_flow.specs.Origins.{Marked, Origin, origins_of}
use Rattle.ix_flow.specs.Marks.{marks_of}
use Rattle.ix_flow.specs.Lowerings.{falls, label_of}
use Rattle.ix_flow.specs.Lines.{Counts, lines_of_entry, pieces_read, with_pieces}
use Rattle.ix_flow.specs.Sides.{IsLike, origin_at, source_in}

-- ---- labels
-- the number that a source has for its label is that of this one; a gap has none
abbrev pub IsUnder : List Categories → Source → Categories → Type 0
IsUnder labels (source.Write place start label) l = slice_get labels label ≡ Some l
IsUnder labels (source.File object label) l = slice_get labels label ≡ Some l
IsUnder labels source.Gap l = Unit {0}

-- each source of a side has the number of the label that what came from there was written under
abbrev pub AreLabelled : List Categories → History → Side → Type 0
AreLabelled labels h s = (n : ℕ) → s.front ≤ n → n < s.end → IsUnder labels (source_in s.runs.entries n) (label_of h (origin_at (source_in s.runs.entries n) n))

-- ---- what was let down
-- whether the entry at that place lets an object down; the first of the entries is at this place
unfoldable pub falls_at : World → ℕ → List Event → ℕ → ℕ → Bool
falls_at w place [] o that = false
falls_at w place (e ∷ events) o that =
    if that == place then falls w.frame (step_of w place e).world.frame o
    else falls_at (step_of w place e).world (suc place) events o that

-- whether the entry at a place of a history let an object down
abbrev pub let_down : History → ℕ → ℕ → Bool
let_down h o place = falls_at (opening_world h.config) 1 h.events o place

-- whether a place is noted for an object
abbrev pub is_noted : Falls → ℕ → ℕ → Bool
is_noted f o place = is_some (get nat_cmp f.places (o * 4294967296 + place))

-- a place is noted for an object exactly where its entry let the object down; the places are below 2^32
pub record AreFalls (f : Falls) (h : History) : Type 0 where
  pub noted : (o place : ℕ) → place < 2 ^ 32 → is_noted f o place ≡ let_down h o place
  pub few : length h.events + 1 < 2 ^ 32

-- ---- counts and lines so far
-- with those of entries that go on a history
unfoldable pub counts_from : History → Counts → List Event → Counts
counts_from h n [] = n
counts_from h n (e ∷ events) = counts_from (with_entry h e) (with_pieces (pieces_read h e) n) events

-- of a whole history
abbrev pub counts_of : History → Counts
counts_of h = counts_from (record { config = h.config; events = [] }) (record { reads = 0; lines = 0 }) h.events

-- the lines of entries that go on a history
unfoldable pub lines_after : History → List Event → List ℕ
lines_after h [] = []
lines_after h (e ∷ events) = lines_of_entry h e ++ lines_after (with_entry h e) events

-- of a whole history, without the last one
abbrev pub lines_so_far : History → List ℕ
lines_so_far h = lines_after (record { config = h.config; events = [] }) h.events

-- ---- sides
-- the side that stands for an end of an object, if any does
abbrev pub side_of : Sides → ℕ → ℕ → Option Side
side_of s o end = get nat_cmp s.all (o * 2 + end)

-- what is taken out of there is that side, or one that holds nothing
abbrev pub IsFound : Option Side → Side → Type 0
IsFound (Some s) taken = taken ≡ s
IsFound None taken = (taken.front ≡ 0) × IsLike taken []

-- a side stands for these origins, under the right labels; where there is none there are no origins
abbrev pub IsTracked : List Categories → History → Option Side → List Origin → Type 0
IsTracked labels h None origins = origins ≡ []
IsTracked labels h (Some s) origins = IsLike s origins × AreLabelled labels h s

-- Sides stand for what is held after a history, so far as it can be read at both ends of each object that lives then; the sides
-- of what is no pipe begin with number 0.
pub record AreSides (s : Sides) (labels : List Categories) (h : History) (hs : List (HoldingOf Marked)) : Type 0 where
  pub tracked : (o end : ℕ) → end < 2 → is_some (at (world_of h).frame.objects o) ≡ true → IsTracked labels h (side_of s o end) (origins_of (side end (held_at hs o)))
  pub first : (o end : ℕ) (x : Object) (y : Side) → end < 2 → at (world_of h).frame.objects o ≡ Some x → is_pipe x ≡ false → side_of s o end ≡ Some y → y.front ≡ 0

-- ---- the whole
-- Tracks stand for a history of a sound world: for what objects hold after it, for what was let down, and for the counts of reads
-- and of lines.
pub record AreTracks (t : Tracks) (h : History) : Type 0 where
  pub sound : Sound (world_of h)
  pub sides : AreSides t.sides t.labels.all.items h (marks_of h)
  pub falls : AreFalls t.falls h
  pub counts : record { reads = t.reads; lines = t.lines } ≡ counts_of h

-- ---- at first
-- after no entries, where the first so many objects are opened: there alone sides stand, all from number 0 on, and nothing was let
-- down or counted
pub record AreOpened (t : Tracks) (h : History) (n : ℕ) : Type 0 where
  pub tracked : (o end : ℕ) → end < 2 → o < n → is_some (at (world_of h).frame.objects o) ≡ true
      → IsTracked t.labels.all.items h (side_of t.sides o end) (origins_of (side end (held_at (marks_of h) o)))
  pub first : (o end : ℕ) (y : Side) → side_of t.sides o end ≡ Some y → y.front ≡ 0
  pub none : (o end : ℕ) → end < 2 → n ≤ o → side_of t.sides o end ≡ None
  pub falls : (o place : ℕ) → is_noted t.falls o place ≡ false
  pub counts : (t.reads ≡ 0) × (t.lines ≡ 0)

-- ---- edits
-- an end of an object that lives after a history, a pipe or not, which stands among those of which something is held
pub record HasEnd (h : History) (hs : List (HoldingOf Marked)) (o end : ℕ) (piped : Bool) : Type 0 where
  pub object : Object
  pub there : at (world_of h).frame.objects o ≡ Some object
  pub kind : is_pipe object ≡ piped
  pub within : end < 2
  pub inside : o < length hs

-- a write of these bytes, whose label has that number
pub record IsWrite (labels : List Categories) (h : History) (w : Written) (bytes : List ℕ) : Type 0 where
  pub count : w.count ≡ length bytes
  pub label : slice_get labels w.label ≡ Some (label_of h (origin.Written w.place 0))
