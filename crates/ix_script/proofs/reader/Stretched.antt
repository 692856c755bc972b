-- The lines of a lane are those of its stretches.
use Rattle.std.proofs.Common.{◌≡◌, ℕ, zero, suc, ◌+◌, ◌-◌, Bool, true, false, cond, List, [], ◌∷◌, ◌++◌, take, drop, count_by, Option, refl, sym, ap, ◌∙◌, arith, add-one, inl, inr}
use Rattle.std.{specs.{Prelude.All, List.flat_map}, proofs.lemmas.{Bool.cases_Bool, List.{Elements.{All-nil, All-cons, All-append}, Sums.sum_by-append}}}
use Rattle.ix_script.specs.{lines.Before.is_phase, declared.{line.Line.Line, schedule.Stretch.Stretch}, scripts.Schedule.{stretches_of, numbered_from, lane_lines, stretch_lines}}
use Rattle.ix_script.specs.scripts.Schedule.{Numbered, LanesAreStretches, StretchesStand, seat_from, is_seat, part_len, stretch_by, begun_after, stretches_from}
use Rattle.ix_script.specs.declared.line.Line.TheVariants as line

-- ---- line after line
rest_of : (s : List Line) (i : ℕ) (l : Line) (later : List Line) → drop i s ≡ l ∷ later → drop (suc i) s ≡ later
rest_of [] zero l later h = cc
rest_of [] (suc i) l later h = cc
rest_of (x ∷ s) zero l later h = cc
rest_of (x ∷ s) (suc i) l later h = rest_of s i l _ h

rest_then : (s : List Line) (i : ℕ) (l : Line) (later : List Line) → drop i s ≡ l ∷ later → drop (i + 1) s ≡ later
rest_then s i l later h = ap (λ n. drop n s) (add-one i) ∙ rest_of s i l _ h

one_taken : (s : List Line) (i : ℕ) (l : Line) (later : List Line) → drop i s ≡ l ∷ later → take (suc i) s ≡ take i s ++ l ∷ []
one_taken [] zero l later h = cc
one_taken [] (suc i) l later h = cc
one_taken (x ∷ s) zero l later h = let e : x ≡ l = cc in ap (λ y. y ∷ []) e
one_taken (x ∷ s) (suc i) l later h = ap (λ ys. x ∷ ys) (one_taken s i l _ h)

-- ---- the lines of a lane
-- the lines of the stretch behind a `lane` line
same_lines : (s later : List Line) (i n : ℕ) → drop (i + 1) s ≡ later → numbered_from (i + 1 + 1) (take (i + 1 + n - (i + 1)) (drop (i + 1) s)) ≡ numbered_from (i + 1 + 1) (take n later)
same_lines s later i n h =
    let long : i + 1 + n - (i + 1) ≡ n = omega arith in
    rw (long, h) refl

behind : (lanes : List (List ℕ)) (seat begun i : ℕ) (s later : List Line) (name : List ℕ) (lines : List Numbered) → drop (i + 1) s ≡ later
    → lines ≡ cond (is_seat seat (seat_from 0 name lanes)) (numbered_from (i + 1 + 1) (take (part_len later) later)) [] ++ flat_map (stretch_lines s) (stretches_from lanes seat begun
    (i + 1) later)
    → lines ≡ flat_map (stretch_lines s) (stretch_by lanes seat begun (i + 1) (line.Lane name) later ++ stretches_from lanes seat begun (i + 1) later)
behind lanes seat begun i s later name lines h is = elim (cases_Bool (is_seat seat (seat_from 0 name lanes))) [
  | inl e ↦ rw e (rw e at is ∙ ap (λ (ls : List Numbered). ls ++ flat_map (stretch_lines s) (stretches_from lanes seat begun (i + 1) later)) (sym (same_lines s later i (part_len later) h)))
  | inr e ↦ rw e (rw e at is)
]

-- those of the lane in which the first line stands, and those of the later stretches
pub lane_from : (lanes : List (List ℕ)) (seat : ℕ) (at : Option ℕ) (begun i : ℕ) (s rest : List Line) → drop i s ≡ rest → lane_lines lanes seat (i + 1) at rest
    ≡ cond (is_seat seat at) (numbered_from (i + 1) (take (part_len rest) rest)) [] ++ flat_map (stretch_lines s) (stretches_from lanes seat begun i rest)
lane_from lanes seat at begun i s [] h = elim (cases_Bool (is_seat seat at)) [
  | inl e ↦ rw e refl
  | inr e ↦ rw e refl
]
lane_from lanes seat at begun i s (line.Phase ∷ later) h =
    let next = lane_from _ _ _ _ _ s _ (rest_then s i _ _ h) in
    elim (cases_Bool (is_seat seat at)) [
      | inl e ↦ rw e next
      | inr e ↦ rw e next
    ]
lane_from lanes seat at begun i s (line.Lane name ∷ later) h =
    let then = rest_then s i _ _ h in
    let next = lane_from lanes seat (seat_from 0 name lanes) begun (i + 1) s later then in
    let here = behind lanes seat begun i s later name _ then next in
    elim (cases_Bool (is_seat seat at)) [
      | inl e ↦ rw e here
      | inr e ↦ rw e here
    ]
lane_from lanes seat at begun i s (l ∷ later) h =
    let next = lane_from lanes seat at begun (i + 1) s later (rest_then s i l later h) in
    elim (cases_Bool (is_seat seat at)) [
      | inl e ↦ rw e (ap (λ (ls : List Numbered). (record { number = i + 1; said = l }) ∷ ls) (rw e at next))
      | inr e ↦ rw e (rw e at next)
    ]

pub lanes_are_stretches : LanesAreStretches
unfolding stretches_of
lanes_are_stretches s seat = lane_from _ _ _ 0 0 s s refl

-- ---- the phases of stretches
abbrev pub Stands : List Line → Stretch → Type 0
Stands s t = t.phase ≡ count_by is_phase (take t.first s) - 1

counted : (n : ℕ) (b : Bool) → n + (0 + cond b 1 0) ≡ cond b (n + 1) n
counted n true = omega arith
counted n false = omega arith

one_begun : (s : List Line) (i : ℕ) (l : Line) (later : List Line) (begun : ℕ) → drop i s ≡ l ∷ later → begun ≡ count_by is_phase (take i s)
    → begun_after begun l ≡ count_by is_phase (take (i + 1) s)
one_begun s i l later begun h is =
    ap (λ n. begun_after n l) is ∙ sym (ap (λ n. count_by is_phase (take n s)) (add-one i) ∙ ap (λ ls. count_by is_phase ls) (one_taken s i l _ h)
    ∙ sum_by-append (λ x. cond (is_phase x) 1 0) (take i s) (l ∷ []) ∙ counted (count_by is_phase (take i s)) (is_phase l))

stand_from : (lanes : List (List ℕ)) (seat begun i : ℕ) (s rest : List Line) → drop i s ≡ rest → begun ≡ count_by is_phase (take i s) → All (Stands s) (stretches_from lanes seat begun i rest)
stand_from lanes seat begun i s [] h is = All-nil _
stand_from lanes seat begun i s (line.Lane name ∷ later) h is =
    let same = one_begun s i _ _ _ h is in
    let next = stand_from _ _ _ _ s _ (rest_then s i _ _ h) same in
    All-append (Stands s) (stretch_by lanes seat begun (i + 1) (line.Lane name) later) (stretches_from lanes seat begun (i + 1) later) (elim (cases_Bool (is_seat seat (seat_from 0 name lanes))) [
      | inl e ↦ rw e (All-cons (Stands s) _ [] (ap (λ n. n - 1) same) (All-nil (Stands s)))
      | inr e ↦ rw e (All-nil (Stands s))
    ]) next
stand_from lanes seat begun i s (l ∷ later) h is = stand_from lanes seat (begun_after begun l) (i + 1) s later (rest_then s i l later h) (one_begun s i l later begun h is)

no_phase : (s : List Line) → 0 ≡ count_by is_phase (take 0 s)
no_phase [] = refl
no_phase (l ∷ s) = refl

pub stretches_stand : StretchesStand
unfolding stretches_of
stretches_stand s seat = stand_from _ _ 0 0 s s refl (no_phase s)
