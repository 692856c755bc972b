-- What a seat has made of what it has seen, and how it goes on.
use Rattle.std.proofs.Common.{◌≡◌, ◌≤◌, ◌+◌, ◌==◌, ℕ, suc, Bool, true, false, List, [], ◌∷◌, ◌++◌, length, Option, Some, None, refl, sym, ap, ◌∙◌, arith}
use Rattle.std.proofs.Common.{append-nil, if◌then◌else◌}
use mathlib.Core.List.{IsPrefix}
use Rattle.std.{specs.{List.{filter, sum_by}, Option.option_map_or}, proofs.lemmas.List.{Elements.filter-append, Sums.{sum-map, sum_by-append}}}
use Rattle.ix_model.specs.{world.World.World, opening.Opening.opening_world, history.Cost.{cost_of, cost_of_history}, history.Step.{step_of, run}}
use Rattle.ix_model.specs.{history.Events.{Op, Event}, history.Made.{Made, entry}, history.Seats.{made_of, replied, made_by}}
use Rattle.ix_model.specs.{history.Systems.{made_after, stops_after, last_stop, FullFor}, declared.{config.Config.Config, ids.Pid.Pid, reply.Answer.Answer}}
use Rattle.ix_model.specs.declared.reply.Answer.TheVariants as answer
use Rattle.ix_gate.{specs.{History.entries_of, Seat.after_meeting}, proofs.Entries.entries_of-rest}
use Rattle.ix_core.proofs.Seated.{makes}
use Rattle.ix_kernel.specs.{Seen.{KSeatState, seat_of, own, after_turn}, Turns.{InTurn, HasRoom}, Systems.{SystemState, made_at, SeatGoesOn, Sits}}

-- ---- costs
-- a history costs no less than what begins it
pub cost_begins : (xs ys : List Event) → IsPrefix xs ys → cost_of_history xs ≤ cost_of_history ys
unfolding cost_of_history
cost_begins xs ys p =
    let cost : Event → ℕ = λ e. cost_of e.op in
    omega (arith, sum-map cost xs, sum-map cost ys, sum_by-append cost xs p.0, ap (sum_by cost) p.1)

-- ---- what others made
replied-append : (w : World) (place : ℕ) (xs ys : List Event) → replied w place (xs ++ ys) ≡ replied w place xs ++ replied (run w place xs) (length xs + place) ys
replied-append w place [] ys = let z : place ≡ 0 + place = omega arith in ap (λ n. replied w n ys) z
replied-append w place (x ∷ xs) ys =
    let z : length xs + suc place ≡ suc (length xs) + place = omega arith in
    let first : Made = made_of x (step_of w place x) in
    let rest : List Made = replied (step_of w place x).world (suc place) xs in
    ap (λ l. first ∷ l) (replied-append (step_of w place x).world (suc place) xs ys ∙ ap (λ n. rest ++ replied (run (step_of w place x).world (suc place) xs) n ys) z)

module _ (seat : ℕ) where
  abbrev by : Made → Bool
  by m = m.event.seat == seat

  -- where a seat has no entries, it made none
  replied-others : (w : World) (place : ℕ) (events : List Event) → entries_of seat_of seat events ≡ [] → filter by (replied w place events) ≡ []
  replied-others w place [] nothing = refl
  replied-others w place (e ∷ events) nothing =
      let rest : List Made = replied (step_of w place e).world (suc place) events in
      let first : Made = made_of e (step_of w place e) in
      elim (e.seat == seat) as (λ b. ((if b then e ∷ entries_of seat_of seat events else entries_of seat_of seat events) ≡ []) → (if b then first ∷ filter by rest else filter by rest) ≡ []) [
        | true ↦ λ no. absurd (cc (no))
        | false ↦ λ no. replied-others (step_of w place e).world (suc place) events no
      ] nothing

  -- entries of others add nothing to what a seat made
  pub made_by-others : (c : Config) (xs ys : List Event) → IsPrefix xs ys → entries_of seat_of seat ys ≡ entries_of seat_of seat xs
      → made_by seat (record { config = c; events = ys }) ≡ made_by seat (record { config = c; events = xs })
  unfolding made_by
  made_by-others c xs ys p same =
      let w : World = opening_world c in
      ap (λ es. filter by (replied w 1 es)) (sym p.1)
      ∙ ap (filter by) (replied-append w 1 xs p.0)
      ∙ filter-append by (replied w 1 xs) (replied (run w 1 xs) (length xs + 1) p.0)
      ∙ ap (λ l. filter by (replied w 1 xs) ++ l) (replied-others (run w 1 xs) (length xs + 1) p.0 (entries_of-rest seat_of seat xs ys p (sym same)))
      ∙ append-nil (filter by (replied w 1 xs))

abbrev at_base : ℕ → List Event → Option Config → List Made
at_base seat es b = option_map_or (λ c. made_by seat (record { config = c; events = es })) b []

made_at-others : (seat : ℕ) (xs ys : List Event) → IsPrefix xs ys → entries_of seat_of seat ys ≡ entries_of seat_of seat xs → (b : Option Config) → at_base seat ys b ≡ at_base seat xs b
made_at-others seat xs ys p same None = refl
made_at-others seat xs ys p same (Some c) = made_by-others seat c xs ys p same

-- ---- a seat
pub made_same : (k l : KSeatState) → SeatGoesOn k l → own l ≡ own k → made_at l ≡ made_at k
made_same k l goes mine =
    let same : entries_of seat_of k.number l.seen ≡ entries_of seat_of k.number k.seen = ap (λ n. entries_of seat_of n l.seen) (sym goes.number) ∙ mine in
    (λ i. at_base (goes.number i) l.seen (goes.base i)) ∙ made_at-others k.number k.seen l.seen goes.seen same k.base

pub made_call : (a : Answer) (k l : KSeatState) (line : ℕ) (pid : Pid) (o : Op) (before after : List ℕ) → InTurn a k l (entry k.number line pid o) before after
    → SeatGoesOn k l → made_at l ≡ made_after a (entry k.number line pid o) after (made_at k)
made_call a k l line pid o before after turn goes =
    let had : made_at k ≡ made_by k.number (record { config = turn.found.config; events = k.seen }) =
    ap (λ (b : Option Config). option_map_or (λ c. made_by k.number (record { config = c; events = k.seen })) b []) turn.base in
    let has : made_at l ≡ made_by k.number (record { config = turn.found.config; events = l.seen }) =
    (λ i. option_map_or (λ c. made_by (goes.number i) (record { config = c; events = l.seen })) (goes.base i) [])
    ∙ ap (λ (b : Option Config). option_map_or (λ c. made_by k.number (record { config = c; events = l.seen })) b []) turn.base in
    has
    ∙ makes turn.found (record (turn.found) { events = l.seen }) before after k.number line pid o a turn.step
    ∙ ap (made_after a (entry k.number line pid o) after) (made_by-others k.number turn.found.config k.seen turn.found.events turn.begins turn.own ∙ sym had)

pub call_goes : (k l : KSeatState) → IsPrefix k.seen l.seen → l ≡ after_turn k l.seen l.looks l.look_found → SeatGoesOn k l
call_goes k l seen is = record {
  gate = ap (λ (z : KSeatState). z.gate) is;
  base = ap (λ (z : KSeatState). z.base) is;
  number = ap (λ (z : KSeatState). z.number) is;
  ended = ap (λ (z : KSeatState). z.ended) is;
  seen = seen;
}

pub meet_goes : (k l : KSeatState) (seen : List Event) (found : ℕ) → IsPrefix k.seen l.seen → l ≡ after_meeting k seen k.ended found → SeatGoesOn k l
meet_goes k l seen found begins is = record {
  gate = ap (λ (z : KSeatState). z.gate) is;
  base = ap (λ (z : KSeatState). z.base) is;
  number = ap (λ (z : KSeatState). z.number) is;
  ended = ap (λ (z : KSeatState). z.ended) is;
  seen = begins;
}

-- what fits a seat fits it later
pub still_fits : (s : SystemState) (l : KSeatState) → SeatGoesOn s.seat l → Sits s → Sits (record s { seat = l })
still_fits s l goes sits = record {
  here = goes.gate ∙ sits.here;
  last = λ stopped. let was = sits.last stopped in (
    omega (arith, was.0, cost_begins s.seat.seen l.seen goes.seen),
    λ c known. was.1 c (sym goes.base ∙ known),
  );
}

-- ---- an answer that isn't of a full journal
pub record IsGiven (o : Op) (a : Answer) : Type 0 where
  pub stops : (n : ℕ) → n ≡ stops_after a n
  pub last : (x : Answer) → x ≡ last_stop a x
  pub full : FullFor o a

pub given_else : (a : Answer) (l : KSeatState) (o : Op) → HasRoom a l o → ((used need cap : ℕ) → a ≡ answer.JournalFull used need cap → ⊥) → IsGiven o a
given_else (answer.Given r) l o room other = record { stops = λ n. refl; last = λ x. refl; full = tt }
given_else (answer.JournalFull used need cap) l o room other = absurd (other used need cap refl)
given_else answer.NoMemory l o room other = absurd room
