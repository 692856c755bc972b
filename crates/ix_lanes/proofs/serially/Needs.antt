-- What a run of a script makes costs no more than the script needs.
use Rattle.std.proofs.Common.{◌≡◌, ℕ, zero, suc, ◌+◌, ◌≤◌, ◌<◌, ◌==◌, nat_lt, true, List, [], ◌∷◌, ◌++◌, length, Option, Some, None, refl, sym, ap, ◌∙◌, subst}
use Rattle.std.proofs.Common.{arith, inl, inr, if◌then◌else◌}
use Rattle.std.{specs.{Prelude.IfSome, List.list_all}, proofs.lemmas.Bool.{cases_eq, eq-eqb, ne_eqb}}
use Rattle.ix_model.specs.{world.World.World, opening.Opening.opening_world, history.{Cost.{cost_of, cost_of_history}, Step.step_of, Events.Event}}
use Rattle.ix_script.specs.{lines.Before.lanes_of, scripts.{Need.{cost_of_line, need}, Scripts.config_of, Schedule.{Numbered, seat_after}}}
use Rattle.ix_script.specs.declared.line.Line.{Line}
use Rattle.ix_policy.specs.declared.rule.Rule.{Rule}
use Rattle.ix_asking.{specs.{Asking.{Answered, Asking, Done, Ask}, Lines.{Calls, calls_then}, Runs.entry_of}, proofs.Costs.{AreFew, Costs}}
use Rattle.ix_lanes.specs.{declared.asking.handed.Handed.Handed, asking.{Asked.{Names, Numbers, named, no_names}, LineAsks.line_asks, Ruled.rules_told}}
use Rattle.ix_lanes.specs.histories.Serial.{header_of}
use Rattle.ix_lanes.specs.histories.Lanes.{Lanes, LanesSoFar, calls_of, entries_of, lane_asks, lines_of_seat, replies_from, replies_of}
use Rattle.ix_lanes.proofs.serially.{Costs.{cost-none, cost-cons, cost-push, need-cons, few_bytes, line-costs}, Told.rules-few, OneEntry.first_seat}
use Rattle.ix_lanes.proofs.serially.LaneSteps.{calls_from, calls-line, entries-mine, entries-other, replies-mine, replies-other, lines-mine, lines-other}

-- ---- sums over seats
-- the sum of what the seats below n have
abbrev below : (ℕ → ℕ) → ℕ → ℕ
below f zero = 0
below f (suc n) = below f n + f n

-- so much at one seat, and nothing at others
abbrev alone : ℕ → ℕ → ℕ → ℕ
alone j c k = if j == k then c else 0

below-le : (f g : ℕ → ℕ) (n : ℕ) → ((k : ℕ) → k < n → f k ≤ g k) → below f n ≤ below g n
below-le f g zero h = omega arith
below-le f g (suc n) h = omega (arith, below-le f g n (λ k low. h k (omega (arith, low))), h n (omega arith))

below-same : (f g : ℕ → ℕ) (n : ℕ) → ((k : ℕ) → f k ≡ g k) → below f n ≡ below g n
below-same f g zero h = refl
below-same f g (suc n) h = omega (arith, below-same f g n h, h n)

below-add : (f g : ℕ → ℕ) (n : ℕ) → below (λ k. f k + g k) n ≡ below f n + below g n
below-add f g zero = refl
below-add f g (suc n) = omega (arith, below-add f g n)

below-nothing : (f : ℕ → ℕ) (n : ℕ) → ((k : ℕ) → f k ≡ 0) → below f n ≡ 0
below-nothing f zero h = refl
below-nothing f (suc n) h = omega (arith, below-nothing f n h, h n)

alone-here : (j c k : ℕ) → j ≡ k → alone j c k ≡ c
alone-here j c k same = rw (eq-eqb j k same) refl

alone-else : (j c k : ℕ) → (j ≡ k → ⊥) → alone j c k ≡ 0
alone-else j c k apart = rw (ne_eqb j k apart) refl

below-past : (j c n : ℕ) → n ≤ j → below (alone j c) n ≡ 0
below-past j c zero h = refl
below-past j c (suc n) h = omega (arith, below-past j c n (omega (arith, h)), alone-else j c n (λ same. absurd (omega (arith, same, h))))

below-alone : (j c n : ℕ) → j < n → below (alone j c) n ≡ c
below-alone j c zero h = absurd (omega (arith, h))
below-alone j c (suc n) h = elim (cases_eq j n) [
  | inl same ↦ omega (arith, below-past j c n (omega (arith, same)), alone-here j c n same)
  | inr apart ↦ omega (arith, below-alone j c n (strictly j n apart h), alone-else j c n apart)
]
  where
    strictly : (i m : ℕ) → (i ≡ m → ⊥) → i < suc m → i < m
    strictly i m apart low = grind (arith, apart, low)

below-most : (j c n : ℕ) → below (alone j c) n ≤ c
below-most j c zero = omega arith
below-most j c (suc n) = elim (cases_eq j n) [
  | inl same ↦ omega (arith, below-past j c n (omega (arith, same)), alone-here j c n same)
  | inr apart ↦ omega (arith, below-most j c n, alone-else j c n apart)
]

-- where one seat has so much to spare
below-spare : (f g : ℕ → ℕ) (j c n : ℕ) → ((k : ℕ) → k < n → f k ≤ g k) → j < n → f j + c ≤ g j → below f n + c ≤ below g n
below-spare f g j c n h low spare =
    let all : below (λ k. f k + alone j c k) n ≤ below g n = below-le (λ k. f k + alone j c k) g n (λ k k_low. elim (cases_eq j k) [
      | inl same ↦ subst (λ (m : ℕ). f m + alone j c m ≤ g m) same (omega (arith, spare, alone-here j c j refl))
      | inr apart ↦ omega (arith, h k k_low, alone-else j c k apart)
    ]) in
    omega (arith, all, below-add f (alone j c) n, below-alone j c n low)

-- ---- entries, by their seats
entry_cost : (k : ℕ) (e : Event) (events : List Event)
    → cost_of_history (entries_of k (e ∷ events)) ≡ alone e.seat (cost_of e.op) k + cost_of_history (entries_of k events)
entry_cost k e events = elim (cases_eq e.seat k) [
  | inl mine ↦
      let here : cost_of_history (entries_of k (e ∷ events)) ≡ cost_of e.op + cost_of_history (entries_of k events) =
      ap cost_of_history (entries-mine k e events mine) ∙ cost-cons e (entries_of k events) in
      omega (arith, here, alone-here e.seat (cost_of e.op) k mine)
  | inr apart ↦
      let elsewhere : cost_of_history (entries_of k (e ∷ events)) ≡ cost_of_history (entries_of k events) = ap cost_of_history (entries-other k e events apart) in
      omega (arith, elsewhere, alone-else e.seat (cost_of e.op) k apart)
]

by_seats : (count : ℕ) (events : List Event) → list_all (λ e. nat_lt e.seat count) events ≡ true
    → cost_of_history events ≡ below (λ k. cost_of_history (entries_of k events)) count
by_seats count [] h = cost-none ∙ sym (below-nothing (λ k. cost_of_history []) count (λ k. cost-none))
by_seats count (e ∷ events) h =
    let seats = first_seat count e events h in
    let split : below (λ k. cost_of_history (entries_of k (e ∷ events))) count ≡ below (λ k. alone e.seat (cost_of e.op) k + cost_of_history (entries_of k events)) count =
    below-same (λ k. cost_of_history (entries_of k (e ∷ events)))
    (λ k. alone e.seat (cost_of e.op) k + cost_of_history (entries_of k events)) count (λ k. entry_cost k e events) in
    omega (
      arith,
      split,
      below-add (alone e.seat (cost_of e.op)) (λ k. cost_of_history (entries_of k events)) count,
      below-alone e.seat (cost_of e.op) count seats.0,
      by_seats count events seats.1,
      cost-cons e events,
    )

-- ---- lines, by the seats of their lanes
-- what numbered lines need
abbrev need_of : List Numbered → ℕ
need_of [] = 0
need_of (l ∷ lines) = cost_of_line l.said + need_of lines

line_need : (lanes : List (List ℕ)) (k j n : ℕ) (l : Line) (lines : List Line)
    → need_of (lines_of_seat lanes k n (Some j) (l ∷ lines)) ≡ alone j (cost_of_line l) k + need_of (lines_of_seat lanes k (suc n) (seat_after lanes (Some j) l) lines)
line_need lanes k j n l lines = elim (cases_eq j k) [
  | inl mine ↦ let here = ap need_of (lines-mine lanes k j n l lines mine) in omega (arith, here, alone-here j (cost_of_line l) k mine)
  | inr apart ↦ let elsewhere = ap need_of (lines-other lanes k j n l lines apart) in omega (arith, elsewhere, alone-else j (cost_of_line l) k apart)
]

lines_need : (lanes : List (List ℕ)) (count n : ℕ) (at : Option ℕ) (lines : List Line)
    → below (λ k. need_of (lines_of_seat lanes k n at lines)) count ≤ need lines
lines_need lanes count n at [] =
    let none : below (λ k. need_of (lines_of_seat lanes k n at [])) count ≡ 0 =
    below-nothing (λ k. need_of (lines_of_seat lanes k n at [])) count (λ k. refl) in
    omega (arith, none)
lines_need lanes count n None (l ∷ lines) = omega (arith, lines_need lanes count (suc n) (seat_after lanes None l) lines, need-cons l lines)
lines_need lanes count n (Some j) (l ∷ lines) =
    let rest : ℕ → ℕ = λ k. need_of (lines_of_seat lanes k (suc n) (seat_after lanes (Some j) l) lines) in
    let split : below (λ k. need_of (lines_of_seat lanes k n (Some j) (l ∷ lines))) count ≡ below (λ k. alone j (cost_of_line l) k + rest k) count =
    below-same (λ k. need_of (lines_of_seat lanes k n (Some j) (l ∷ lines))) (λ k. alone j (cost_of_line l) k + rest k) count
    (λ k. line_need lanes k j n l lines) in
    omega (
      arith,
      split,
      below-add (alone j (cost_of_line l)) rest count,
      below-most j (cost_of_line l) count,
      lines_need lanes count (suc n) (seat_after lanes (Some j) l) lines,
      need-cons l lines,
    )

-- ---- one lane
-- none of the entries is answered more bytes than it asks for
abbrev Answers : List Event → List Answered → Type 0
Answers [] answers = Unit {0}
Answers (e ∷ events) [] = Unit {0}
Answers (e ∷ events) (r ∷ answers) = AreFew e.op (length r.bytes) × Answers events answers

few_answers : (w : World) (place k : ℕ) (events : List Event) → Answers (entries_of k events) (replies_from w place k events)
few_answers w place k [] = tt
few_answers w place k (e ∷ events) = elim (cases_eq e.seat k) [
  | inl mine ↦ rw (entries-mine k e events mine, replies-mine w place k e events mine)
      (few_bytes w place e, few_answers (step_of w place e).world (place + 1) k events)
  | inr apart ↦ rw (entries-other k e events apart, replies-other w place k e events apart) (few_answers (step_of w place e).world (place + 1) k events)
]

abbrev next_cost : Option Event → ℕ
next_cost None = 0
next_cost (Some e) = cost_of e.op

-- what calls cost, with the one that is asked for after them
abbrev calls_cost : Calls → ℕ
calls_cost c = cost_of_history c.entries + next_cost c.next

-- a lane's calls, where they are answered so, cost no more than its lines need
abbrev Within : Calls → List Answered → ℕ → Type 0
Within c answers n = Answers c.entries answers → calls_cost c ≤ n

then_within : (R : Type 0) (k m n : ℕ) (p : Asking R) (after : R → List Answered → Calls) → Costs m p
    → ((r : R) (rest : List Answered) → Within (after r rest) rest n)
    → (answers : List Answered) → Within (calls_then k p answers after) answers (m + n)
then_within R k m n (Done r) after costs later answers = λ h. omega (arith, later r answers h)
then_within R k m n (Ask a more) after costs later [] = λ h. omega (arith, costs.1, cost-none)
then_within R k m n (Ask a more) after costs later (x ∷ answers) = λ h.
    let rest = then_within R k costs.0 n (more x) after (costs.2 x h.0) later answers h.1 in
    omega (arith, rest, costs.1, cost-cons (entry_of k a) (calls_then k (more x) answers after).entries)

lane_within : (rules : Option (List Rule)) → ((r : List Rule) → rules ≡ Some r → length r ≤ 256)
    → (header : Numbers) (k : ℕ) (names : Names) (lines : List Numbered) (answers : List Answered)
    → Within (calls_from rules header k names lines answers) answers (need_of lines)
lane_within rules few header k names [] answers = λ h. omega (arith, cost-none)
lane_within rules few header k names (l ∷ lines) answers =
    subst (λ (c : Calls). Within c answers (cost_of_line l.said + need_of lines)) (sym (calls-line rules header k names l lines answers))
    (then_within Handed k (cost_of_line l.said) (need_of lines) (line_asks rules header names l.number l.said)
    (λ g rest. calls_from rules header k (named names l.said g) lines rest)
    (line-costs rules few header names l.number l.said) (λ g rest. lane_within rules few header k (named names l.said g) lines rest)
    answers)

-- ---- all lanes
module _ (s : List Line) (events : List Event) (so_far : LanesSoFar s events) where
  lane : (k : ℕ) → k < length (lanes_of s)
      → cost_of_history (entries_of k events) + next_cost (calls_of s k (replies_of s k events)).next ≤ need_of (lines_of_seat (lanes_of s) k 1 None s)
  unfolding lane_asks replies_of
  lane k low =
      let entries = so_far.calls k low in
      let few : Answers (calls_of s k (replies_of s k events)).entries (replies_of s k events) =
      subst (λ (es : List Event). Answers es (replies_of s k events)) (sym entries) (few_answers (opening_world (config_of s)) 1 k events) in
      let within = lane_within (rules_told s) (rules-few s) (header_of s) k no_names (lines_of_seat (lanes_of s) k 1 None s) (replies_of s k events) few in
      let same : cost_of_history (calls_of s k (replies_of s k events)).entries ≡ cost_of_history (entries_of k events) = ap cost_of_history entries in
      omega (arith, within, same)

  pub so_far_fits : cost_of_history events ≤ need s
  so_far_fits =
      let all = below-le (λ k. cost_of_history (entries_of k events)) (λ k. need_of (lines_of_seat (lanes_of s) k 1 None s)) (length (lanes_of s))
      (λ k low. let one = lane k low in omega (arith, one)) in
      omega (arith, by_seats (length (lanes_of s)) events so_far.seats, all, lines_need (lanes_of s) (length (lanes_of s)) 1 None s)

  pub next_fits : (k : ℕ) → k < length (lanes_of s)
      → IfSome (calls_of s k (replies_of s k events)).next (λ e. cost_of_history (events ++ e ∷ []) ≤ need s)
  next_fits k low = go (calls_of s k (replies_of s k events)).next (lane k low)
    where
      go : (o : Option Event) → cost_of_history (entries_of k events) + next_cost o ≤ need_of (lines_of_seat (lanes_of s) k 1 None s)
          → IfSome o (λ e. cost_of_history (events ++ e ∷ []) ≤ need s)
      go None h = tt
      go (Some e) h =
          let all = below-spare (λ j. cost_of_history (entries_of j events)) (λ j. need_of (lines_of_seat (lanes_of s) j 1 None s)) k (cost_of e.op)
          (length (lanes_of s)) (λ j j_low. let one = lane j j_low in omega (arith, one)) low h in
          omega
          (arith, cost-push events e, by_seats (length (lanes_of s)) events so_far.seats, all, lines_need (lanes_of s) (length (lanes_of s)) 1 None s)

-- a whole history costs no more either
pub whole_fits : (s : List Line) (events : List Event) → Lanes s events → cost_of_history events ≤ need s
whole_fits s events h = so_far_fits s events (record { seats = h.seats; calls = λ k low. ap (λ (c : Calls). c.entries) (h.calls k low) })
