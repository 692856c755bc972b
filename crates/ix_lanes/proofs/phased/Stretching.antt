-- The names that the lines of a lane give, stretch by stretch.
use Rattle.std.proofs.Common.{◌≡◌, ℕ, zero, suc, ◌+◌, ◌-◌, ◌≤◌, min, Bool, true, List, [], ◌∷◌, ◌++◌, length, take, drop, Option, Some, None, refl, sym, ap}
use Rattle.std.proofs.Common.{◌∙◌, arith, slice_get, inl, inr, length-append, length-drop, ◌&&◌}
use Rattle.std.specs.List.{flat_map, list_all}
use Rattle.std.proofs.{lemmas.Bool.{and_parts, and_from, cases_Bool, cases_lt}, lemmas.Grind.flat_map-append, lemmas.List.take_all}
use Rattle.std.proofs.{lemmas.List.Folds.list_all-append, lemmas.Option.slice_get_cases}
use Rattle.ix_script.specs.{lines.Before.lanes_of, declared.{line.Line.Line, schedule.Stretch.Stretch}}
use Rattle.ix_script.specs.scripts.Schedule.{LanesAreStretches, begun_after, is_seat, lane_lines, numbered_from, seat_from, stretch_by, stretch_lines}
use Rattle.ix_script.specs.scripts.Schedule.{stretches_from, stretches_of}
use Rattle.ix_script.specs.declared.line.Line.TheVariants as line
use Rattle.ix_lanes.specs.{declared.asking.places.Places.Places, asking.Places.{has_places, KeepsPlaces}, histories.Lanes.lines_of_seat}
use Rattle.ix_lanes.specs.running.{Fields.all_placed, Phases.lane_among}
use Rattle.ix_lanes.proofs.phased.{LaneLines.one_more, Placed.keeps-lines}

-- ---- lines without their numbers
-- each name that one of these lines gives has its place
abbrev pub placed : Places → List Line → Bool
placed p ls = list_all (λ (l : Line). has_places p l) ls

placed_numbered : (p : Places) (n : ℕ) (ls : List Line) → all_placed p (numbered_from n ls) ≡ placed p ls
placed_numbered p n [] = refl
placed_numbered p n (l ∷ ls) = ap (λ b. has_places p l && b) (placed_numbered p (n + 1) ls)

-- ---- the lines of a lane
phase_gives : (p : Places) → has_places p line.Phase ≡ true
unfolding has_places
phase_gives p = refl

lane_gives : (p : Places) (name : List ℕ) → has_places p (line.Lane name) ≡ true
unfolding has_places
lane_gives p name = refl

-- where the names of its lines have their places, so have those of the lines that begin its parts, which give none
lane_placed : (p : Places) (lanes : List (List ℕ)) (seat n m : ℕ) (at : Option ℕ) (ls : List Line) → all_placed p (lane_lines lanes seat n at ls) ≡ true
    → all_placed p (lines_of_seat lanes seat m at ls) ≡ true
lane_placed p lanes seat n m at [] h = refl
lane_placed p lanes seat n m at (line.Phase ∷ ls) h = elim (cases_Bool (is_seat seat at)) [
  | inl e ↦ rw e (and_from _ _ (phase_gives p) (lane_placed p lanes seat (n + 1) (suc m) None ls (rw e at h)))
  | inr e ↦ rw e (lane_placed p lanes seat (n + 1) (suc m) None ls (rw e at h))
]
lane_placed p lanes seat n m at (line.Lane name ∷ ls) h = elim (cases_Bool (is_seat seat at)) [
  | inl e ↦ rw e (and_from _ _ (lane_gives p name) (lane_placed p lanes seat (n + 1) (suc m) (seat_from 0 name lanes) ls (rw e at h)))
  | inr e ↦ rw e (lane_placed p lanes seat (n + 1) (suc m) (seat_from 0 name lanes) ls (rw e at h))
]
lane_placed p lanes seat n m at (l ∷ ls) h = elim (cases_Bool (is_seat seat at)) [
  | inl e ↦
      let parts = and_parts (has_places p l) (all_placed p (lane_lines lanes seat (n + 1) at ls)) (rw e at h) in
      rw e (and_from _ _ parts.0 (lane_placed p lanes seat (n + 1) (suc m) at ls parts.1))
  | inr e ↦ rw e (lane_placed p lanes seat (n + 1) (suc m) at ls (rw e at h))
]

-- where those of the lines of all its stretches have
pub all_stretches : LanesAreStretches → (p : Places) (s : List Line) (seat : ℕ) → all_placed p (flat_map (stretch_lines s) (stretches_of s seat)) ≡ true
    → all_placed p (lane_among s seat s) ≡ true
all_stretches law p s seat h = lane_placed p (lanes_of s) seat 1 1 None s (ap (all_placed p) (law s seat) ∙ h)

-- ---- stretch by stretch
pub stretch_more : (old new : Places) (s : List Line) (ts : List Stretch) (n : ℕ) (t : Stretch) → slice_get ts n ≡ Some t → KeepsPlaces old new
    → all_placed old (flat_map (stretch_lines s) (take n ts)) ≡ true → all_placed new (stretch_lines s t) ≡ true → all_placed new (flat_map (stretch_lines s) (take (n + 1) ts)) ≡ true
stretch_more old new s ts n t at keeps before this =
    let more : flat_map (stretch_lines s) (take (n + 1) ts) ≡ flat_map (stretch_lines s) (take n ts) ++ (stretch_lines s t ++ []) =
    ap (flat_map (stretch_lines s)) (one_more ts n t at) ∙ flat_map-append (stretch_lines s) (take n ts) (t ∷ []) in
    ap (all_placed new) more
    ∙ list_all-append _ (flat_map (stretch_lines s) (take n ts)) (stretch_lines s t ++ [])
    ∙ and_from _ _ (keeps-lines old new keeps _ before) (list_all-append _ (stretch_lines s t) [] ∙ and_from _ _ this refl)

one_at_most : (lanes : List (List ℕ)) (seat begun i : ℕ) (l : Line) (later : List Line) → length (stretch_by lanes seat begun i l later) ≤ 1
one_at_most lanes seat begun i (line.Lane name) later = elim (cases_Bool (is_seat seat (seat_from 0 name lanes))) [
  | inl e ↦ rw e (omega arith)
  | inr e ↦ rw e (omega arith)
]
one_at_most lanes seat begun i _ later = omega arith

-- a lane has at most one stretch for each line
few_from : (lanes : List (List ℕ)) (seat begun i : ℕ) (ls : List Line) → length (stretches_from lanes seat begun i ls) ≤ length ls
few_from lanes seat begun i [] = omega arith
few_from lanes seat begun i (l ∷ later) =
    omega (
      arith,
      one_at_most lanes seat begun (i + 1) l later,
      few_from lanes seat (begun_after begun l) (i + 1) later,
      length-append (stretch_by lanes seat begun (i + 1) l later) (stretches_from lanes seat (begun_after begun l) (i + 1) later),
    )

pub few_stretches : (s : List Line) (seat : ℕ) → length (stretches_of s seat) ≤ length s
unfolding stretches_of
few_stretches s seat = few_from (lanes_of s) seat 0 0 s

-- where none stands at a place there are no more
pub stretches_past : (ts : List Stretch) (n : ℕ) → slice_get ts n ≡ None → length ts ≤ n
stretches_past ts n none = elim (slice_get_cases ts n).1 [
  | inl (t, within, at, is) ↦ cc
  | inr past ↦ past.0
]

-- ---- line by line
-- a line behind so many others
pub behind_others : (s : List Line) (i k j : ℕ) → i + k ≡ j → slice_get (drop i s) k ≡ slice_get s j
behind_others s zero k j is = ap (slice_get s) (let same : k ≡ j = omega (arith, is) in same)
behind_others [] (suc i) k j is = refl
behind_others (l ∷ s) (suc i) k zero is = absurd (omega (arith, is))
behind_others (l ∷ s) (suc i) k (suc j) is = behind_others s i k j (omega (arith, is))

pub line_more : (old new : Places) (ls : List Line) (k : ℕ) (l : Line) → slice_get ls k ≡ Some l → KeepsPlaces old new → placed old (take k ls) ≡ true → has_places new l ≡ true
    → placed new (take (k + 1) ls) ≡ true
line_more old new ls k l at keeps before has =
    ap (placed new) (one_more ls k l at) ∙ list_all-append _ (take k ls) (l ∷ []) ∙ and_from _ _ (kept (take k ls) before) (and_from _ _ has refl)
  where
    kept : (xs : List Line) → placed old xs ≡ true → placed new xs ≡ true
    kept [] h = refl
    kept (x ∷ xs) h = let parts = and_parts (has_places old x) (placed old xs) h in and_from _ _ (keeps x parts.0) (kept xs parts.1)

placed_front : (p : Places) (a b : ℕ) (xs : List Line) → a ≤ b → placed p (take b xs) ≡ true → placed p (take a xs) ≡ true
placed_front p zero b xs few h = refl
placed_front p (suc a) zero xs few h = absurd (omega (arith, few))
placed_front p (suc a) (suc b) [] few h = refl
placed_front p (suc a) (suc b) (x ∷ xs) few h =
    let parts = and_parts (has_places p x) (placed p (take b xs)) h in and_from _ _ parts.0 (placed_front p a b xs (omega (arith, few)) parts.1)

-- all lines of a stretch
pub stretch_done : (p : Places) (s : List Line) (t : Stretch) (i : ℕ) → min t.end (length s) ≤ i → placed p (take (i - t.first) (drop t.first s)) ≡ true → all_placed p (stretch_lines s t) ≡ true
stretch_done p s t i far h =
    placed_numbered p (t.first + 1) (take (t.end - t.first) (drop t.first s)) ∙ elim (cases_lt i t.end) [
      | inr short ↦ placed_front p (t.end - t.first) (i - t.first) (drop t.first s) (omega (arith, short)) h
      | inl long ↦
          let left : length (drop t.first s) ≡ length s - t.first = length-drop t.first s in
          let all : take (i - t.first) (drop t.first s) ≡ drop t.first s = take_all (i - t.first) (drop t.first s) (omega (arith, left, far, long)) in
          let whole : take (t.end - t.first) (drop t.first s) ≡ drop t.first s = take_all (t.end - t.first) (drop t.first s) (omega (arith, left, far, long)) in
          ap (placed p) (whole ∙ sym all) ∙ h
    ]
