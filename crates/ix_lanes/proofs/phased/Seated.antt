-- The places of all lanes, line by line.
use Rattle.std.proofs.Common.{◌≡◌, ℕ, ◌+◌, ◌-◌, ◌<◌, ◌==◌, true, false, true≢false, if◌then◌else◌, List, length, map, take, set, Option, Some, None, inl, inr, refl, sym, ap}
use Rattle.std.proofs.Common.{◌∙◌, arith, slice_get}
use Rattle.std.proofs.lemmas.{Bool.{cases_Bool, eq-eqb, ne_eqb}, List.{length-map, length-replicate}, Option.slice_get_within}
use Rattle.ix_script.specs.{lines.{Before.lanes_of, Roles.role_of}, declared.line.Line.Line, scripts.Schedule.{is_seat, seat_begun}}
use Rattle.ix_lanes.specs.{asking.{Asked.no_names, Places.{KeepsPlaces, has_places, standing}}, declared.asking.places.Places.Places, histories.Serial.first_names}
use Rattle.ix_lanes.specs.running.{Fields.all_placed, Phases.{lane_among, seat_at}, Serially.role_begins}
use Rattle.ix_lanes.proofs.found.{Indexed.{counted_from_one, each_set}, Roles.{seat-stays, seat-told}}
use Rattle.ix_lanes.proofs.phased.{InOrder.seat_low, LaneLines.seat_one_more, Placed.{placed-here, placed-not}}

-- each name that one of so many first lines gives has its place among those of the line's lane
abbrev pub PlacedTo : List Line → ℕ → List Places → Type 0
PlacedTo s i all = (k : ℕ) (p : Places) → slice_get all k ≡ Some p → all_placed p (lane_among s k (take i s)) ≡ true

-- the seat of the lane that the line of a number begins, if it begins one
abbrev pub seat_by : List Line → ℕ → Option ℕ
seat_by s begun = seat_begun (lanes_of s) (if begun == 0 then None else slice_get s (begun - 1))

-- a line stands in a lane that has its names
pub lane-there : (s : List Line) (all : List Places) (i k : ℕ) → map standing all ≡ first_names s → seat_at s (take i s) ≡ Some k → k < length all
lane-there s all i k names is =
    let count : length all ≡ length (lanes_of s) = sym (length-map all standing) ∙ ap length names ∙ length-replicate (length (lanes_of s)) no_names in
    omega (arith, count, seat_low s (take i s) k is)

-- ---- one line more
module _ (s : List Line) (i : ℕ) (l : Line) (line : slice_get s i ≡ Some l) where
  -- which begins a part
  pub seat-begins : role_begins (role_of l) ≡ true → seat_by s (i + 1) ≡ seat_at s (take (i + 1) s)
  seat-begins begins =
      ap (seat_begun (lanes_of s)) (counted_from_one s i ∙ line)
      ∙ seat-told (lanes_of s) (seat_at s (take i s)) l begins
      ∙ sym (seat_one_more s i l line)

  -- which begins none
  pub seat-apart : (begun : ℕ) → role_begins (role_of l) ≡ false → seat_by s begun ≡ seat_at s (take i s) → seat_by s begun ≡ seat_at s (take (i + 1) s)
  seat-apart begun apart seat = seat ∙ sym (seat-stays (lanes_of s) (seat_at s (take i s)) l apart) ∙ sym (seat_one_more s i l line)

module _ (s : List Line) (i : ℕ) (l : Line) (line : slice_get s i ≡ Some l) (all : List Places) (placed : PlacedTo s i all) where
  -- whose names have their places
  has-passed : ((k : ℕ) (p : Places) → is_seat k (seat_at s (take i s)) ≡ true → has_places p l ≡ true) → PlacedTo s (i + 1) all
  has-passed has k p at = elim (cases_Bool (is_seat k (seat_at s (take i s)))) [
    | inl mine ↦ placed-here s k i l line p p mine (placed k p at) (λ m h. h) (has k p mine)
    | inr not ↦ placed-not s k i l line p not (placed k p at)
  ]

  -- which gives none
  pub none-given : ((p : Places) → has_places p l ≡ true) → PlacedTo s (i + 1) all
  none-given has = has-passed (λ k p mine. has p)

  -- which is of no lane
  pub none-seated : seat_at s (take i s) ≡ None → PlacedTo s (i + 1) all
  none-seated none = has-passed (λ k p mine. absurd (true≢false (sym mine ∙ ap (is_seat k) none)))

  -- whose names were added to those of its lane
  pub names-added : (k : ℕ) (p q : Places) → seat_at s (take i s) ≡ Some k → slice_get all k ≡ Some p → KeepsPlaces p q → has_places q l ≡ true
      → PlacedTo s (i + 1) (set all k q)
  names-added k p q is there keeps has =
      let mine : is_seat k (seat_at s (take i s)) ≡ true = ap (is_seat k) is ∙ eq-eqb k k refl in
      each_set (λ seat names. all_placed names (lane_among s seat (take (i + 1) s)) ≡ true) all k q (slice_get_within all k p there)
      (placed-here s k i l line p q mine (placed k p there) keeps has)
      (λ seat names other at. placed-not s seat i l line names (ap (is_seat seat) is ∙ ne_eqb k seat (λ same. other (sym same))) (placed seat names at))
