-- Names that have their places, line by line.
use Rattle.std.proofs.Common.{◌≡◌, ℕ, ◌+◌, true, false, List, [], ◌∷◌, ◌++◌, take, drop, Some, None, refl, sym, ap, ◌∙◌, slice_get, append-nil}
use Rattle.std.proofs.lemmas.{Bool.{and_parts, and_from}, List.{take-append-drop, Folds.list_all-append}}
use Rattle.ix_script.specs.{lines.Before.lanes_of, declared.line.Line.Line, scripts.Schedule.{Numbered, is_seat}}
use Rattle.ix_lanes.specs.{declared.asking.places.Places.Places, asking.Places.{has_places, KeepsPlaces}}
use Rattle.ix_lanes.specs.running.{Phases.{lane_among, seat_at}, Fields.all_placed}
use Rattle.ix_lanes.proofs.phased.LaneLines.{lane-append, lane_one_more, mine-here, mine-not}

module _ (s : List Line) (seat i : ℕ) (l : Line) (at : slice_get s i ≡ Some l) where
  lane-here : is_seat seat (seat_at s (take i s)) ≡ true → lane_among s seat (take (i + 1) s) ≡ lane_among s seat (take i s) ++ (record { number = i + 1; said = l }) ∷ []
  lane-here is = lane_one_more s seat i l at ∙ ap (λ ls. lane_among s seat (take i s) ++ ls) (mine-here seat (i + 1) (seat_at s (take i s)) l is)

  lane-not : is_seat seat (seat_at s (take i s)) ≡ false → lane_among s seat (take (i + 1) s) ≡ lane_among s seat (take i s)
  lane-not is = lane_one_more s seat i l at ∙ ap (λ ls. lane_among s seat (take i s) ++ ls) (mine-not seat (i + 1) (seat_at s (take i s)) l is) ∙ append-nil (lane_among s seat (take i s))

pub keeps-lines : (old new : Places) → KeepsPlaces old new → (ls : List Numbered) → all_placed old ls ≡ true → all_placed new ls ≡ true
keeps-lines old new keeps [] h = refl
keeps-lines old new keeps (l ∷ ls) h =
    let parts = and_parts (has_places old l.said) (all_placed old ls) h in
    and_from (has_places new l.said) (all_placed new ls) (keeps l.said parts.0) (keeps-lines old new keeps ls parts.1)

placed-parts : (p : Places) (xs ys : List Numbered) → all_placed p (xs ++ ys) ≡ true → (all_placed p xs ≡ true) × (all_placed p ys ≡ true)
placed-parts p xs ys h = and_parts (all_placed p xs) (all_placed p ys) (sym (list_all-append _ xs ys) ∙ h)

placed-both : (p : Places) (xs ys : List Numbered) → all_placed p xs ≡ true → all_placed p ys ≡ true → all_placed p (xs ++ ys) ≡ true
placed-both p xs ys this that = list_all-append _ xs ys ∙ and_from (all_placed p xs) (all_placed p ys) this that

module _ (s : List Line) (seat i : ℕ) (l : Line) (at : slice_get s i ≡ Some l) where
  -- the line's names were added
  pub placed-here : (old new : Places) → is_seat seat (seat_at s (take i s)) ≡ true → all_placed old (lane_among s seat (take i s)) ≡ true → KeepsPlaces old new → has_places new l ≡ true
      → all_placed new (lane_among s seat (take (i + 1) s)) ≡ true
  placed-here old new is before keeps has =
      ap (all_placed new) (lane-here s seat i l at is)
      ∙ placed-both new _ ((record { number = i + 1; said = l }) ∷ []) (keeps-lines old new keeps (lane_among s seat (take i s)) before) (and_from (has_places new l) true has refl)

  pub placed-not : (p : Places) → is_seat seat (seat_at s (take i s)) ≡ false → all_placed p (lane_among s seat (take i s)) ≡ true → all_placed p (lane_among s seat (take (i + 1) s)) ≡ true
  placed-not p is before = ap (all_placed p) (lane-not s seat i l at is) ∙ before

  -- the names of a line of the lane
  pub placed-line : (p : Places) → is_seat seat (seat_at s (take i s)) ≡ true → all_placed p (lane_among s seat s) ≡ true → has_places p l ≡ true
  placed-line p is all =
      let parts : s ≡ take (i + 1) s ++ drop (i + 1) s = sym (take-append-drop (i + 1) s) in
      let split = sym (ap (all_placed p) (ap (lane_among s seat) parts ∙ lane-append (lanes_of s) seat 1 None (take (i + 1) s) (drop (i + 1) s))) ∙ all in
      let front = (placed-parts p _ _ split).0 in
      let one = (placed-parts p (lane_among s seat (take i s)) ((record { number = i + 1; said = l }) ∷ []) (sym (ap (all_placed p) (lane-here s seat i l at is)) ∙ front)).1 in
      (and_parts (has_places p l) true one).0
