-- What is shown where a high process writes any two bytes, entry by entry.
use Rattle.std.proofs.Common.{◌≡◌, ℕ, List, [], ◌∷◌, refl, codes}
use Rattle.ix_label.specs.Category.{Categories, bottom, top}
use Rattle.ix_model.specs.{world.World.World, history.{Step.Given, Events.Event}, opening.Opening.opening_world}
use Rattle.ix_model.specs.history.Events as op
use Rattle.ix_model.specs.declared.call.Mode.TheVariants as mode
use Rattle.ix_worked.specs.{Sessions.shown, Scripts.{seven, in_root, proc, file, usual_fs, entry}, floating.TwoLevels.{two_levels, writing, writing_shows}}
use Rattle.ix_worked.proofs.{Chains.{◌⨾◌, Steps, number, bytes, shown_by, shown_given}, Computing.running, Labels.labels, Worlds.{Opened, world_with}}

-- the entries, and what follows the first, the second and so on
abbrev pub opening_d_high : Event
opening_d_high = entry 8 2 (op.OpenAt (in_root (codes "d")) mode.Write)

abbrev pub opening_d_low : Event
opening_d_low = entry 9 1 (op.OpenAt (in_root (codes "d")) mode.Read)

abbrev pub opening_e_low : Event
opening_e_low = entry 10 1 (op.OpenAt (in_root (codes "e")) mode.Read)

abbrev pub writes : List ℕ → Event
writes new = entry 11 2 (op.WriteFd 0 new)

abbrev pub reading_e_low : Event
reading_e_low = entry 12 1 (op.ReadFd 1 2)

abbrev pub reading_d_low : Event
reading_d_low = entry 13 1 (op.ReadFd 0 2)

abbrev pub past_4 : List Event
past_4 = reading_e_low ∷ reading_d_low ∷ []

abbrev pub past_5 : List Event
past_5 = reading_d_low ∷ []

abbrev pub past_3 : List ℕ → List Event
past_3 new = writes new ∷ past_4

abbrev pub past_2 : List ℕ → List Event
past_2 new = opening_e_low ∷ past_3 new

abbrev pub past_1 : List ℕ → List Event
past_1 new = opening_d_low ∷ past_2 new

-- the low process at a label with these descriptors, the high one with these, the file that is written, and what is open
abbrev pub world : Categories → List ℕ → List ℕ → Categories → List ℕ → List Opened → World
world label low high raised bytes opens =
    world_with usual_fs (record { spec = proc label top; holds = low } ∷ record { spec = proc seven top; holds = high } ∷ [])
    (file (codes "d") raised bytes ∷ file (codes "e") bottom (codes "ok") ∷ []) opens

abbrev pub on_d : Categories → ℕ → Opened
on_d label offset = record { file = 1; mode = mode.Read; label = label; offset = offset }

abbrev pub on_e : ℕ → Opened
on_e offset = record { file = 2; mode = mode.Read; label = bottom; offset = offset }

abbrev pub writes_d : Categories → ℕ → Opened
writes_d label offset = record { file = 1; mode = mode.Write; label = label; offset = offset }

-- ---- the worlds, in order
unfoldable pub at_first : World
at_first = world bottom [] [] bottom (0 ∷ []) []

unfoldable pub one_open : World
one_open = world bottom [] (0 ∷ []) bottom (0 ∷ []) (writes_d bottom 0 ∷ [])

unfoldable pub two_open : World
two_open = world bottom (1 ∷ []) (0 ∷ []) bottom (0 ∷ []) (writes_d bottom 0 ∷ on_d bottom 0 ∷ [])

unfoldable pub all_open : World
all_open = world bottom (1 ∷ 2 ∷ []) (0 ∷ []) bottom (0 ∷ []) (writes_d bottom 0 ∷ on_d bottom 0 ∷ on_e 0 ∷ [])

unfoldable pub written : ℕ → ℕ → World
written a b = world bottom (1 ∷ 2 ∷ []) (0 ∷ []) seven (a ∷ b ∷ []) (writes_d seven 2 ∷ on_d bottom 0 ∷ on_e 0 ∷ [])

unfoldable pub read_low : ℕ → ℕ → World
read_low a b = world bottom (1 ∷ 2 ∷ []) (0 ∷ []) seven (a ∷ b ∷ []) (writes_d seven 2 ∷ on_d bottom 0 ∷ on_e 2 ∷ [])

unfoldable pub read_high : ℕ → ℕ → World
read_high a b = world seven (1 ∷ 2 ∷ []) (0 ∷ []) seven (a ∷ b ∷ []) (writes_d seven 2 ∷ on_d seven 2 ∷ on_e 2 ∷ [])

-- ---- the steps from one to the next
pub opening : opening_world two_levels ≡ at_first
unfolding running at_first
opening = refl

pub opens_d_high : Steps at_first 1 2 (op.OpenAt (in_root (codes "d")) mode.Write) (number one_open 0)
unfolding running at_first one_open
opens_d_high = (simp labels refl, refl)

pub opens_d_low : Steps one_open 2 1 (op.OpenAt (in_root (codes "d")) mode.Read) (number two_open 0)
unfolding running one_open two_open
opens_d_low = (simp labels refl, refl)

pub opens_e_low : Steps two_open 3 1 (op.OpenAt (in_root (codes "e")) mode.Read) (number all_open 1)
unfolding running two_open all_open
opens_e_low = (simp labels refl, refl)

pub writes_d_high : (a b : ℕ) → Steps all_open 4 2 (op.WriteFd 0 (a ∷ b ∷ [])) (number (written a b) 2)
unfolding running all_open written
writes_d_high a b = (simp labels refl, refl)

pub reads_e_low : (a b : ℕ) → Steps (written a b) 5 1 (op.ReadFd 1 2) (bytes (read_low a b) (codes "ok"))
unfolding running written read_low
reads_e_low a b = (simp labels refl, refl)

pub reads_d_low : (a b : ℕ) → Steps (read_low a b) 6 1 (op.ReadFd 0 2) (bytes (read_high a b) (a ∷ b ∷ []))
unfolding running read_low read_high
reads_d_low a b = (simp labels refl, refl)

-- ---- all of them. The worlds stay closed until the last step is taken.
abbrev given : ℕ → ℕ → List Given
given a b =
    number one_open 0
    ∷ number two_open 0
    ∷ number all_open 1
    ∷ number (written a b) 2
    ∷ bytes (read_low a b) (codes "ok")
    ∷ bytes (read_high a b) (a ∷ b ∷ [])
    ∷ []

ran : (a b : ℕ) → shown two_levels (writing (a ∷ b ∷ [])) ≡ shown_by at_first (writing (a ∷ b ∷ [])) (given a b)
ran a b = shown_given two_levels at_first (writing (a ∷ b ∷ [])) (given a b) opening
    (opens_d_high ⨾ opens_d_low ⨾ opens_e_low ⨾ writes_d_high a b ⨾ reads_e_low a b ⨾ reads_d_low a b ⨾ tt)

pub two_bytes : (a b : ℕ) → shown two_levels (writing (a ∷ b ∷ [])) ≡ writing_shows (a ∷ b ∷ [])
unfolding at_first one_open two_open all_open written read_low read_high
two_bytes a b = ran a b
