-- The lines of a seat's lane, part by part.
use Rattle.std.proofs.Common.{◌≡◌, ℕ, suc, ◌+◌, Bool, true, false, List, [], ◌∷◌, ◌++◌, length, take, Option, Some, None, refl, ap, ◌∙◌, arith, fold, slice_get}
use Rattle.std.proofs.Common.{if◌then◌else◌}
use Rattle.std.proofs.lemmas.{List.{take_more, length-take-le, Sums.fold-append}, Option.{slice_get_within, get_or_from_slice_get}}
use Rattle.ix_script.specs.{lines.Before.lanes_of, declared.line.Line.Line, scripts.Schedule.{seat_after, Numbered, is_seat}}
use Rattle.ix_lanes.specs.{histories.Lanes.lines_of_seat, running.Phases.{lane_among, seat_at}}

-- one line, where it stands in the lane
abbrev pub mine : ℕ → ℕ → Option ℕ → Line → List Numbered
mine seat n at l = if is_seat seat at then (record { number = n; said = l }) ∷ [] else []

pub lane-append : (lanes : List (List ℕ)) (seat n : ℕ) (at : Option ℕ) (xs ys : List Line)
    → lines_of_seat lanes seat n at (xs ++ ys) ≡ lines_of_seat lanes seat n at xs ++ lines_of_seat lanes seat (n + length xs) (fold (seat_after lanes) at xs) ys
lane-append lanes seat n at [] ys = let same : n + 0 ≡ n = omega arith in rw same refl
lane-append lanes seat n at (l ∷ xs) ys = go (lane-append lanes seat (suc n) (seat_after lanes at l) xs ys ∙ ap further number) (is_seat seat at) refl
  where
    number : suc n + length xs ≡ n + suc (length xs)
    number = omega arith

    further : ℕ → List Numbered
    further m = lines_of_seat lanes seat (suc n) (seat_after lanes at l) xs ++ lines_of_seat lanes seat m (fold (seat_after lanes) (seat_after lanes at l) xs) ys

    go : lines_of_seat lanes seat (suc n) (seat_after lanes at l) (xs ++ ys) ≡ further (n + suc (length xs)) → (b : Bool) → is_seat seat at ≡ b
        → lines_of_seat lanes seat n at (l ∷ (xs ++ ys)) ≡ lines_of_seat lanes seat n at (l ∷ xs)
        ++ lines_of_seat lanes seat (n + suc (length xs)) (fold (seat_after lanes) (seat_after lanes at l) xs) ys
    go later true is = rw is (ap (λ ls. (record { number = n; said = l }) ∷ ls) later)
    go later false is = rw is later

pub one_of : (lanes : List (List ℕ)) (seat n : ℕ) (at : Option ℕ) (l : Line) → lines_of_seat lanes seat n at (l ∷ []) ≡ mine seat n at l
one_of lanes seat n at l = go (is_seat seat at) refl
  where
    go : (b : Bool) → is_seat seat at ≡ b → lines_of_seat lanes seat n at (l ∷ []) ≡ mine seat n at l
    go true is = rw is refl
    go false is = rw is refl

-- ---- the first lines of a script
-- so many first ones, and one more
pub one_more : {A : Type 0} (xs : List A) (i : ℕ) (x : A) → slice_get xs i ≡ Some x → take (i + 1) xs ≡ take i xs ++ x ∷ []
one_more xs i x at = take_more xs i x (slice_get_within xs i x at) ∙ ap (λ y. take i xs ++ y ∷ []) (get_or_from_slice_get xs i x x at)

pub lane_one_more : (s : List Line) (seat i : ℕ) (l : Line) → slice_get s i ≡ Some l
    → lane_among s seat (take (i + 1) s) ≡ lane_among s seat (take i s) ++ mine seat (i + 1) (seat_at s (take i s)) l
lane_one_more s seat i l at =
    let long : length (take i s) ≡ i = length-take-le i s (omega (arith, slice_get_within s i l at)) in
    let number : 1 + length (take i s) ≡ i + 1 = omega (arith, long) in
    ap (lane_among s seat) (one_more s i l at)
    ∙ lane-append (lanes_of s) seat 1 None (take i s) (l ∷ [])
    ∙ ap (λ ls. lane_among s seat (take i s) ++ ls) (one_of (lanes_of s) seat (1 + length (take i s)) (seat_at s (take i s)) l
    ∙ ap (λ n. mine seat n (seat_at s (take i s)) l) number)

pub seat_one_more : (s : List Line) (i : ℕ) (l : Line) → slice_get s i ≡ Some l → seat_at s (take (i + 1) s) ≡ seat_after (lanes_of s) (seat_at s (take i s)) l
seat_one_more s i l at = ap (seat_at s) (one_more s i l at) ∙ fold-append (seat_after (lanes_of s)) None (take i s) (l ∷ [])

-- a line of the lane, and one of no lane or of another
pub mine-here : (seat n : ℕ) (at : Option ℕ) (l : Line) → is_seat seat at ≡ true → mine seat n at l ≡ (record { number = n; said = l }) ∷ []
mine-here seat n at l is = rw is refl

pub mine-not : (seat n : ℕ) (at : Option ℕ) (l : Line) → is_seat seat at ≡ false → mine seat n at l ≡ []
mine-not seat n at l is = rw is refl
