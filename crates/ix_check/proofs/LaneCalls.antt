-- What the lane of a script asks for is what a lane of the theory asks for. All that goes by how a line asks for its calls stands here.
use Rattle.std.proofs.Common.{◌≡◌, ℕ, zero, suc, ◌≤◌, Bool, true, false, List, [], ◌∷◌, ◌++◌, length, take, Option, None, refl, sym, ap, subst, arith, cond, if◌then◌else◌}
use Rattle.std.{proofs.lemmas.List.Sums.sum_by-take-le, specs.List.sum_by}
use Rattle.ix_model.specs.history.Events.{Event}
use Rattle.ix_asking.{specs.{Asking.{Answered, Asking, Done, Ask, all_heard, first, followed, heard}, Lines.{calls_then, no_calls}, Runs.entry_of}, proofs.{Every.AllOf, Few.Few}}
use Rattle.ix_script.specs.{declared.line.Line.Line, lines.Before.{lanes_of, is_phase}, scripts.Schedule.{Numbered, is_seat, seat_after}}
use Rattle.ix_lanes.specs.asking.{Asked.{Names, named, no_names}, LineAsks.{OfLine, line_asks, lines_ask}, Ruled.rules_told}
use Rattle.ix_lanes.{specs.histories.{History.phase_of, Lanes.{calls_of, lane_asks, lines_of_seat}, Serial.header_of}, proofs.serially.{LineCalls.all-numbered, LineFew.few-of-line}}
use Rattle.ix_judging.{specs.{Asking.IsLane, Lanes.with_entry_first, Lines.{AsksFew, LinesRise, lines_from}}, proofs.LaneLines.{lines_are, more_room}}
use Rattle.ix_check.specs.{Plans.{calls_as, most_calls}, Stepping.entry_due}
use Rattle.ix_judging.specs.Lines as theory

-- ---- phases
take_less : {X : Type 0} (j i : ℕ) (xs : List X) → j ≤ i → take j (take i xs) ≡ take j xs
take_less zero i xs le = refl
take_less (suc j) zero xs le = absurd (omega (arith, le))
take_less (suc j) (suc i) [] le = refl
take_less (suc j) (suc i) (x ∷ xs) le = ap (λ ys. x ∷ ys) (take_less j i xs (omega (arith, le)))

phases_rise : (s : List Line) (n m : ℕ) → n ≤ m → phase_of s n ≤ phase_of s m
unfolding phase_of
phases_rise s n m le =
    let same = take_less n m s le in omega (arith, sum_by-take-le (λ l. cond (is_phase l) 1 0) (take m s) n, ap (λ ls. sum_by (λ l. cond (is_phase l) 1 0) ls) same)

-- ---- what is left to ask for
-- the call that stands next is the one that is asked for next
pub next_left : (k : ℕ) (p : Asking Names) (answers : List Answered) → (calls_then k p answers no_calls).next ≡ entry_due k (first (all_heard p answers))
next_left k (Done r) [] = refl
next_left k (Done r) (x ∷ answers) = next_left k (Done r) answers
next_left k (Ask a later) [] = refl
next_left k (Ask a later) (x ∷ answers) = next_left k (later x) _

-- one answer more
pub heard_on : (p : Asking Names) (answers : List Answered) (a : Answered) → all_heard p (answers ++ a ∷ []) ≡ heard (all_heard p answers) a
heard_on p [] a = refl
heard_on p (x ∷ answers) a = heard_on (heard p x) answers a

module _ (s : List Line) (k : ℕ) where
  -- ---- what a line asks for
  abbrev Asks : Type 0 → Type 0
  Asks R = theory.Asking Event Answered R

  -- a seat's calls, as the theory has them, and what comes of them
  abbrev asks_as : {R : Type 0} → (R → Names) → Asking R → Asks Names
  asks_as f (Done r) = theory.Done (f r)
  asks_as f (Ask a later) = theory.Ask (entry_of k a) (λ x. asks_as f (later x))

  abbrev said_by : Names → Numbered → Asks Names
  said_by names l = asks_as (named names l.said) (line_asks (rules_told s) (header_of s) names l.number l.said)

  -- ---- lines ask for the same
  abbrev IsSaid : Names → List Numbered → Type 0
  IsSaid names lines =
      (answers : List Answered) → calls_as (calls_then k (lines_ask (rules_told s) (header_of s) names lines) answers no_calls)
      ≡ lines_from said_by names lines answers

  -- what a line asks for, and the lines after it
  with_rest : (R : Type 0) (p : Asking R) (f : R → Names) (lines : List Numbered) → ((names : Names) → IsSaid names lines)
      → (answers : List Answered)
      → calls_as (calls_then k (followed p (λ r. lines_ask (rules_told s) (header_of s) (f r) lines)) answers no_calls)
      ≡ theory.calls_then (asks_as f p) answers (λ after rest. lines_from said_by after lines rest)
  with_rest R (Done r) f lines later answers = later _ _
  with_rest R (Ask a more) f lines later [] = refl
  with_rest R (Ask a more) f lines later (x ∷ answers) = ap (with_entry_first (entry_of k a)) (with_rest R (more x) f _ later _)

  said : (names : Names) (lines : List Numbered) → IsSaid names lines
  said names [] answers = refl
  said names (l ∷ lines) answers =
      with_rest _ (line_asks (rules_told s) (header_of s) names l.number l.said) _ _ (λ after. said after lines) _

  -- ---- few calls, each in its lane and its phase
  both : (R : Type 0) (n most : ℕ) (f : R → Names) (p : Asking R) → AllOf (OfLine n) p → Few most p
      → AsksFew (λ (e : Event). e.seat) (λ (e : Event). phase_of s e.line) k (phase_of s n) most (asks_as f p)
  both R n most f (Done r) all few = tt
  both R n zero f (Ask a more) all few = absurd few
  both R n (suc most) f (Ask a more) all few = (refl, ap (phase_of s) all.0, λ x. both R n _ f (more x) (all.1 x) (few x))

  line_few : (names : Names) (l : Numbered)
      → AsksFew (λ (e : Event). e.seat) (λ (e : Event). phase_of s e.line) k (phase_of s l.number) 9 (said_by names l)
  line_few names l =
      both _ _ 9 _ (line_asks (rules_told s) (header_of s) names l.number l.said)
      (all-numbered _ _ _ _ _) (few-of-line _ _ _ _ _)

  -- ---- the lines of a lane
  abbrev within : Numbered → ℕ
  within l = phase_of s l.number

  -- they have rising numbers, so their phases never fall
  seat_rise : (low n : ℕ) (at : Option ℕ) (lines : List Line) → low ≤ phase_of s n
      → LinesRise within low (lines_of_seat (lanes_of s) k n at lines)
  seat_rise low n at [] le = tt
  seat_rise low n at (l ∷ lines) le =
      here (is_seat k at) (seat_rise (phase_of s n) _ _ lines up)
      (seat_rise _ _ _ lines (omega (arith, le, up)))
    where
      up : phase_of s n ≤ phase_of s (suc n)
      up = phases_rise s n _ (omega arith)

      here : (b : Bool) → LinesRise within (phase_of s n) (lines_of_seat (lanes_of s) k (suc n) (seat_after (lanes_of s) at l) lines)
          → LinesRise within low (lines_of_seat (lanes_of s) k (suc n) (seat_after (lanes_of s) at l) lines)
          → LinesRise within low (if b then (record { number = n; said = l }) ∷ lines_of_seat (lanes_of s) k (suc n) (seat_after (lanes_of s) at l) lines
          else lines_of_seat (lanes_of s) k (suc n) (seat_after (lanes_of s) at l) lines)
      here true mine other = (le, mine)
      here false mine other = other

  few_lines : (n : ℕ) (at : Option ℕ) (lines : List Line) → length (lines_of_seat (lanes_of s) k n at lines) ≤ length lines
  few_lines n at [] = omega arith
  few_lines n at (l ∷ lines) = here _ (few_lines _ (seat_after (lanes_of s) at l) lines)
    where
      here : (b : Bool) → length (lines_of_seat (lanes_of s) k (suc n) (seat_after (lanes_of s) at l) lines) ≤ length lines
          → length (if b then (record { number = n; said = l }) ∷ lines_of_seat (lanes_of s) k (suc n) (seat_after (lanes_of s) at l) lines
          else lines_of_seat (lanes_of s) k (suc n) (seat_after (lanes_of s) at l) lines) ≤ length (l ∷ lines)
      here true few = omega (arith, few)
      here false few = omega (arith, few)

  abbrev phase : Event → ℕ
  phase e = phase_of s e.line

  -- ---- a script's lane
  pub script_lane : IsLane (λ (e : Event). e.seat) (λ (e : Event). phase_of s e.line) k 0 (most_calls s) (λ answers. calls_as (calls_of s k answers))
  unfolding lane_asks
  script_lane =
      let lines = lines_of_seat (lanes_of s) k 1 None s in
      let are = lines_are _ _ _ _ k 9 line_few 0 _ _ (seat_rise 0 1 _ s (omega arith)) in
      let is = more_room _ _ k 0 0 _ _ _ (omega arith)
      (omega (arith, few_lines 1 None s)) are in
      subst (IsLane (λ (e : Event). e.seat) phase k 0 (most_calls s)) (λ i answers. sym (said no_names lines answers) i) is
