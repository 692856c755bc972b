-- A journal of the script's config is never full.
use Rattle.std.proofs.Common.{◌≡◌, ℕ, ◌+◌, ◌≤◌, nat_lt, true, List, [], ◌∷◌, ◌++◌, length, drop, fold, Option, Some, None, refl, sym, ap, ◌∙◌, subst, arith}
use Rattle.std.proofs.Common.{append-nil}
use Rattle.std.{specs.{Prelude.IfSome, List.list_all}, proofs.lemmas.List.take-append-drop}
use Rattle.ix_model.specs.history.{Cost.cost_of_history, Events.Event}
use Rattle.ix_script.specs.{lines.Before.lanes_of, scripts.{Need.need, Schedule.{Numbered, seat_after}}, declared.line.Line.Line}
use Rattle.ix_asking.specs.{Asking.{Answered, Asking, Done, Ask, followed}, Lines.{Calls, calls_then, no_calls}}
use Rattle.ix_lanes.specs.asking.{Asked.{Names, no_names}, LineAsks.lines_ask, Ruled.rules_told}
use Rattle.ix_lanes.specs.histories.{Serial.header_of, Lanes.{LanesSoFar, calls_of, entries_of, lane_asks, lines_of_seat, replies_of}}
use Rattle.ix_lanes.specs.running.Phases.{asks_before, lane_among, lane_before, lines_before}
use Rattle.ix_parallel.{specs.{Joining.IsFull, Stages.ComesTo}, proofs.together.MadeIn.one_reply_each}
use Rattle.ix_lanes.proofs.serially.{Costs.cost-push, Needs.next_fits}
use Rattle.ix_lanes.proofs.phased.{Appended.{appended, stays_cut}, Between.asks_append, LaneLines.lane-append, PhaseLines.before-taken}

-- what isn't answered is no entry
none_without : {R : Type 0} (seat : ℕ) (p : Asking R) → (calls_then seat p [] no_calls).entries ≡ []
none_without seat (Done r) = refl
none_without seat (Ask a later) = refl

-- the lines of a lane behind some phases
lane_behind : (s : List Line) (seat k : ℕ) → (more : List Numbered) × (lines_of_seat (lanes_of s) seat 1 None s ≡ lane_before s seat k ++ more)
lane_behind s seat k =
    let front : List Line = lines_before k s in
    let rest : List Line = drop (length front) s in
    let lines : s ≡ front ++ rest = sym (take-append-drop (length front) s) ∙ ap (λ ls. ls ++ rest) (sym (before-taken s k)) in (
      lines_of_seat (lanes_of s) seat (1 + length front) (fold (seat_after (lanes_of s)) None front) rest,
      ap (lane_among s seat) lines ∙ lane-append (lanes_of s) seat 1 None front rest,
    )

-- what a lane asks for in all: first what it asks for in some phases, and then what these lines do
asks_behind : (s : List Line) (seat k : ℕ) → (more : Names → Asking Names) × (lane_asks s seat ≡ followed (asks_before s seat k) more)
unfolding asks_before lane_asks
asks_behind s seat k =
    let lines = lane_behind s seat k in (
      λ names. lines_ask (rules_told s) (header_of s) names lines.0,
      ap (lines_ask (rules_told s) (header_of s) no_names) lines.1 ∙ asks_append (rules_told s) (header_of s) (lane_before s seat k) lines.0 no_names,
    )

-- of all that a lane asks for, what it made in some phases comes first, and what it was to make next
pub comes_so_far : (s : List Line) (k : ℕ) (events : List Event) (seat : ℕ) (next : Option Event) → ComesTo s k events seat next
    → ((calls_of s seat (replies_of s seat events)).entries ≡ entries_of seat events) × IfSome next (λ e. (calls_of s seat (replies_of s seat events)).next ≡ Some e)
comes_so_far s k events seat None h =
    let asks = asks_behind s seat k in
    let replies : List Answered = replies_of s seat events in
    let both = appended seat asks.0 (asks_before s seat k) replies (entries_of seat events) (one_reply_each s seat events) h in (
      ap (λ p. (calls_then seat p replies no_calls).entries) asks.1
          ∙ ap (λ rs. (calls_then seat (followed (asks_before s seat k) asks.0) rs no_calls).entries) (sym (append-nil replies))
          ∙ ap (λ (c : Calls). c.entries) (both.1 [])
          ∙ ap (λ es. entries_of seat events ++ es) (none_without seat (asks.0 both.0))
          ∙ append-nil (entries_of seat events),
      tt,
    )
comes_so_far s k events seat (Some e) h =
    let asks = asks_behind s seat k in
    let replies : List Answered = replies_of s seat events in
    let whole : calls_of s seat replies ≡ record { entries = entries_of seat events; next = Some e } =
    ap (λ p. calls_then seat p replies no_calls) asks.1
    ∙ stays_cut seat asks.0 (asks_before s seat k) replies e (ap (λ (c : Calls). c.next) h) ∙ h in
    (ap (λ (c : Calls). c.entries) whole, ap (λ (c : Calls). c.next) whole)

-- So a full journal that is told of no more than what was made contradicts what the script needs.
pub never_full : (s : List Line) (events : List Event) → list_all (λ e. nat_lt e.seat (length (lanes_of s))) events ≡ true → IsFull s events → ⊥
never_full s events seats h =
    let asks = h.asks in
    let so_far : LanesSoFar s events = record { seats = seats; calls = λ n low. let lane = asks.each n low in (comes_so_far s asks.phases events n lane.0 lane.1).0 } in
    let next = (comes_so_far s asks.phases events h.stopped (Some h.next) asks.here).1 in
    let fits : cost_of_history (events ++ h.next ∷ []) ≤ need s =
    subst (λ (o : Option Event). IfSome o (λ f. cost_of_history (events ++ f ∷ []) ≤ need s)) next (next_fits s events so_far h.stopped asks.within) in
    let full = h.full in
    let little = h.little in
    let room = h.room in
    omega (arith, fits, cost-push events h.next, full.0, full.1, little, room)
