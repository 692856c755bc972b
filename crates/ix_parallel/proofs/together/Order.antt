-- Where the lanes make the entries of a phase behind those of the phases before, phases never fall.
use Rattle.std.proofs.Common.{◌≡◌, ℕ, zero, suc, ◌+◌, ◌-◌, ◌≤◌, ◌<◌, ◌==◌, nat_le, nat_lt, true, List, [], ◌∷◌, ◌++◌, length, take, drop, fold, None, refl, sym}
use Rattle.std.proofs.Common.{ap, ◌∙◌, subst, arith}
use Rattle.std.specs.List.{list_all}
use Rattle.std.proofs.{Math.Seq.take-add, lemmas.{List.{append_cancel_left, length-take, Elements.filter-append}, Bool.{and_parts, and_from, le-leb}}}
use Rattle.ix_model.specs.history.Events.{Event}
use Rattle.ix_script.specs.{lines.Before.lanes_of, declared.line.Line.Line, scripts.Schedule.{Numbered, seat_after}}
use Rattle.ix_asking.specs.{Asking.{Asking, followed}, Lines.{Calls, calls_then, no_calls}}
use Rattle.ix_lanes.specs.asking.{Asked.{Names, no_names}, LineAsks.lines_ask, Ruled.rules_told}
use Rattle.ix_lanes.specs.histories.{Serial.header_of, Lanes.{entries_of, lines_of_seat, replies_of}, History.{phase_of, phases_never_fall}}
use Rattle.ix_lanes.specs.running.Phases.{asks_before, calls_before, lane_among, lane_before, lines_before}
use Rattle.ix_parallel.{specs.Stages.{ComesTo, LanesTo, Stages}, proofs.together.{MadeIn.{more_replies, one_reply_each}, PhaseOf.{before_further, phase_at}}}
use Rattle.ix_lanes.proofs.{serially.OneEntry.first_seat, phased.{Appended.appended, Between.asks_append, LaneLines.lane-append, PhaseLines.before-taken}}
use Rattle.ix_parallel.proofs.together.LinesIn.{EachLine, EachNumber, Within, each_append, each_in_lane, each_of_seats, each_of_lines, each_weaker}

-- ---- seats
pub all_within : (count : ℕ) (events : List Event) → list_all (λ e. nat_lt e.seat count) events ≡ true → Within count events
all_within count [] h = tt
all_within count (e ∷ events) h = let parts = first_seat count e events h in (parts.0, all_within count events parts.1)

within_parts : (count : ℕ) (xs ys : List Event) → Within count (xs ++ ys) → Within count xs × Within count ys
within_parts count [] ys h = (tt, h)
within_parts count (x ∷ xs) ys h = let later = within_parts count xs ys h.1 in ((h.0, later.0), later.1)

-- ---- one phase more
-- the lines of a lane in the next phase
pub lane_further : (s : List Line) (seat k : ℕ) → (more : List Numbered) × (lane_before s seat (suc k) ≡ lane_before s seat k ++ more) × EachNumber (λ n. phase_of s n ≡ k) more
lane_further s seat k =
    let front : List Line = lines_before k s in
    let rest : List Line = take (length (lines_before (suc k) s) - length front) (drop (length front) s) in
    let far : length front ≤ length (lines_before (suc k) s) = before_further s k in
    let sum : length front + (length (lines_before (suc k) s) - length front) ≡ length (lines_before (suc k) s) = omega (arith, far) in
    let lines : lines_before (suc k) s ≡ front ++ rest =
    before-taken s (suc k) ∙ ap (λ n. take n s) (sym sum) ∙ take-add (length front) (length (lines_before (suc k) s) - length front) s ∙ ap (λ ls. ls ++ rest) (sym (before-taken s k)) in
    let few : length rest ≤ length (lines_before (suc k) s) - length front = omega (arith, length-take (length (lines_before (suc k) s) - length front) (drop (length front) s)) in (
      lines_of_seat (lanes_of s) seat (1 + length front) (fold (seat_after (lanes_of s)) None front) rest,
      ap (lane_among s seat) lines ∙ lane-append (lanes_of s) seat 1 None front rest,
      each_in_lane (λ n. phase_of s n ≡ k) (lanes_of s) seat (1 + length front) (fold (seat_after (lanes_of s)) None front) rest
          (λ m low high. phase_at s k m (omega (arith, low)) (omega (arith, high, few, far))),
    )

-- what the lane asks for then, behind what it asks for before
asks_further : (s : List Line) (seat k : ℕ) (more : List Numbered) → lane_before s seat (suc k) ≡ lane_before s seat k ++ more
    → asks_before s seat (suc k) ≡ followed (asks_before s seat k) (λ names. lines_ask (rules_told s) (header_of s) names more)
unfolding asks_before
asks_further s seat k more is = ap (lines_ask (rules_told s) (header_of s) no_names) is ∙ asks_append (rules_told s) (header_of s) (lane_before s seat k) more no_names

-- the entries that a lane makes then
next_entries : (s : List Line) (seat k : ℕ) (before more : List Event) → ComesTo s k before seat None → ComesTo s (suc k) (before ++ more) seat None
    → EachLine (λ n. phase_of s n ≡ k) (entries_of seat more)
next_entries s seat k before more was is =
    let P : ℕ → Type 0 = λ n. phase_of s n ≡ k in
    let lines = lane_further s seat k in
    let asks : Names → Asking Names = λ names. lines_ask (rules_told s) (header_of s) names lines.0 in
    let replies = more_replies s seat before more in
    let both = appended seat asks (asks_before s seat k) (replies_of s seat before) (entries_of seat before) (one_reply_each s seat before) was in
    let whole : calls_before s seat (suc k) (replies_of s seat (before ++ more)) ≡ calls_then seat (followed (asks_before s seat k) asks) (replies_of s seat before ++ replies.0) no_calls =
    (λ i. calls_then seat (asks_further s seat k lines.0 lines.1 i) (replies.1 i) no_calls) in
    let made : entries_of seat before ++ (calls_then seat (asks both.0) replies.0 no_calls).entries ≡ entries_of seat before ++ entries_of seat more =
    ap (λ (c : Calls). c.entries) (sym (both.1 replies.0) ∙ sym whole ∙ is) ∙ filter-append (λ (e : Event). e.seat == seat) before more in
    subst (EachLine P) (append_cancel_left (entries_of seat before) _ _ made) (each_of_lines P lines.0 lines.2 (rules_told s) (header_of s) seat both.0 replies.0)

-- ---- all phases
lanes_at_first : (s : List Line) → LanesTo s 0 []
unfolding asks_before replies_of
lanes_at_first s = λ seat low. refl

pub lanes_come_to : (s : List Line) (k : ℕ) (events : List Event) → Stages s k events → LanesTo s k events
lanes_come_to s zero events h = subst (LanesTo s 0) (sym h) (lanes_at_first s)
lanes_come_to s (suc k) events h = h.2

sorted_then : (s : List Line) (k : ℕ) (events : List Event) → EachLine (λ n. phase_of s n ≡ k) events → phases_never_fall s events ≡ true
sorted_then s k [] h = refl
sorted_then s k (e ∷ []) h = refl
sorted_then s k (e ∷ f ∷ events) h =
    let low = h.0 in
    let next = h.1.0 in
    and_from (nat_le (phase_of s e.line) (phase_of s f.line)) (phases_never_fall s (f ∷ events)) (le-leb _ _ (omega (arith, low, next))) (sorted_then s k (f ∷ events) h.1)

sorted_append : (s : List Line) (k : ℕ) (xs ys : List Event) → EachLine (λ n. phase_of s n < k) xs → phases_never_fall s xs ≡ true
    → EachLine (λ n. phase_of s n ≡ k) ys → phases_never_fall s (xs ++ ys) ≡ true
sorted_append s k [] ys low sorted same = sorted_then s k ys same
sorted_append s k (x ∷ []) [] low sorted same = refl
sorted_append s k (x ∷ []) (y ∷ ys) low sorted same =
    let here = low.0 in
    let next = same.0 in
    and_from (nat_le (phase_of s x.line) (phase_of s y.line)) (phases_never_fall s (y ∷ ys)) (le-leb _ _ (omega (arith, here, next))) (sorted_then s k (y ∷ ys) same)
sorted_append s k (x ∷ z ∷ xs) ys low sorted same =
    let parts = and_parts (nat_le (phase_of s x.line) (phase_of s z.line)) (phases_never_fall s (z ∷ xs)) sorted in
    and_from (nat_le (phase_of s x.line) (phase_of s z.line)) (phases_never_fall s (z ∷ (xs ++ ys))) parts.0 (sorted_append s k (z ∷ xs) ys low.1 parts.1 same)

pub stages_in_order : (s : List Line) (k : ℕ) (events : List Event) → Stages s k events → Within (length (lanes_of s)) events
    → EachLine (λ n. phase_of s n < k) events × (phases_never_fall s events ≡ true)
stages_in_order s zero events h within = subst (λ es. EachLine (λ n. phase_of s n < 0) es × (phases_never_fall s es ≡ true)) (sym h) (tt, refl)
stages_in_order s (suc k) events h within =
    let before : List Event = h.0 in
    let more : List Event = h.1.0 in
    let is : before ++ more ≡ events = h.1.1 in
    let seats = within_parts (length (lanes_of s)) before more (subst (Within (length (lanes_of s))) (sym is) within) in
    let now : LanesTo s (suc k) (before ++ more) = subst (LanesTo s (suc k)) (sym is) h.2 in
    let was : LanesTo s k before = lanes_come_to s k before h.3 in
    let new : EachLine (λ n. phase_of s n ≡ k) more =
    each_of_seats (λ n. phase_of s n ≡ k) (length (lanes_of s)) more (λ seat low. next_entries s seat k before more (was seat low) (now seat low)) seats.1 in
    let old = stages_in_order s k before h.3 seats.0 in
    subst (λ es. EachLine (λ n. phase_of s n < suc k) es × (phases_never_fall s es ≡ true)) is (
      each_append (λ n. phase_of s n < suc k) before more
          (each_weaker (λ n. phase_of s n < k) (λ n. phase_of s n < suc k) (λ n low. omega (arith, low)) before old.0)
          (each_weaker (λ n. phase_of s n ≡ k) (λ n. phase_of s n < suc k) (λ n same. omega (arith, same)) more new),
      sorted_append s k before more old.0 old.1 new,
    )
