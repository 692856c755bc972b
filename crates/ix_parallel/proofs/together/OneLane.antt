-- What a lane comes to in a phase.
use Rattle.std.proofs.Common.{◌≡◌, ℕ, suc, ◌<◌, List, Option, Some, None, sym, ap, ◌∙◌, subst, arith}
use mathlib.Core.List.{IsPrefix}
use Rattle.ix_gate.specs.Gate.{GateState}
use Rattle.ix_kernel.specs.{Seen.KSeatState, Systems.{GoesOn, SeatGoesOn, SystemState, made_of, made_at, seat_of, stopped_of, seat_goes_on_further}}
use Rattle.ix_model.specs.{history.{Events.Event, Seats.made_by, Systems.FullFor}, declared.reply.Answer.Answer}
use Rattle.ix_model.specs.declared.reply.Answer.TheVariants as answer
use Rattle.ix_script.specs.{scripts.Scripts.config_of, declared.line.Line.Line}
use Rattle.ix_lanes.specs.{histories.Lanes.{entries_of, replies_of}, running.{Phases.calls_before, Runs.Ran, SideBySide.RunsPhase}}
use Rattle.ix_lanes.proofs.phased.Standing.{cut_calls, stands_calls}
use Rattle.ix_asking.specs.{Runs.answers_of, Lines.events_of}
use Rattle.ix_lanes.specs.running.Runs as runs
use Rattle.ix_parallel.specs.{Between.{MadeTo, Waits}, Meeting.Learns, Seats.Seated, Stages.ComesTo}
use Rattle.ix_parallel.proofs.together.{MadeIn.{made_between, made_entries, made_replies}, Seen.{begins_itself, made_part, made_sees, part_further}}

-- a lane with its seat runs a phase
abbrev pub RunsSeated : Seated → Seated → Option Answer → Type 0
RunsSeated old new stop = RunsPhase seat_of made_of (λ (x : SystemState). x.stops) stopped_of GoesOn old new stop

-- what was made, as what a history has
pub comes_as_made : (s : List Line) (k : ℕ) (history : List Event) (n : ℕ) (seat : KSeatState) (next : Option Event)
    → made_by n (record { config = config_of s; events = history }) ≡ made_at seat → MadeTo s k n seat next → ComesTo s k history n next
comes_as_made s k history n seat next is h =
    let replies : answers_of (made_at seat) ≡ replies_of s n history = ap answers_of (sym is) ∙ made_replies s n history in
    let entries : events_of (made_at seat) ≡ entries_of n history = ap events_of (sym is) ∙ made_entries s n history in
    ap (calls_before s n k) (sym replies) ∙ h ∙ (λ i. record { entries = entries i; next = next })

-- A lane that stood so learnt of the first, then ran the phase, and then the first learnt of it.
module _ (s : List Line) (kernel : GateState) (k n : ℕ) (before history : List Event) (old met new after : Seated) (stood : Waits s kernel k before n old)
    (meets : Learns old met) (learns : Learns new after) where
  pub lane_goes : (stop : Option Answer) → RunsSeated met new stop → SeatGoesOn old.sys.seat after.sys.seat
  lane_goes stop r =
      seat_goes_on_further old.sys.seat met.sys.seat after.sys.seat meets.goes (seat_goes_on_further met.sys.seat new.sys.seat after.sys.seat r.follows.1 learns.goes)

  pub lane_kernel : (stop : Option Answer) → RunsSeated met new stop → after.sys.kernel ≡ kernel
  lane_kernel stop r = ap (λ (x : SystemState). x.kernel) learns.system ∙ r.follows.0 ∙ ap (λ (x : SystemState). x.kernel) meets.system ∙ stood.kernel

  -- where its lines are all done
  pub lane_done : RunsSeated met new None → MadeTo s (suc k) n after.sys.seat None
  lane_done r =
      let script : new.run.script ≡ s = r.script ∙ ap (λ (x : Ran). x.script) meets.run ∙ stood.script in
      let lane : new.run.lane ≡ n = r.lane ∙ ap (λ (x : Ran). x.lane) meets.run ∙ stood.lane in
      let done : new.run.done ≡ suc k = r.done.0 ∙ ap (λ (x : Ran). suc x.done) meets.run ∙ ap suc stood.done in
      subst (λ made. calls_before s n (suc k) (answers_of made) ≡ record { entries = events_of made; next = None }) (sym learns.made)
      ((λ i. calls_before (sym script i) (sym lane i) (sym done i) (answers_of (made_at new.sys.seat))) ∙ stands_calls new.run (made_at new.sys.seat) r.done.1)

  pub lane_waits : RunsSeated met new None → IsPrefix after.sys.seat.seen history → Waits s kernel (suc k) history n after
  lane_waits r begins = record {
    script = ap (λ (x : Ran). x.script) learns.run ∙ r.script ∙ ap (λ (x : Ran). x.script) meets.run ∙ stood.script;
    lane = ap (λ (x : Ran). x.lane) learns.run ∙ r.lane ∙ ap (λ (x : Ran). x.lane) meets.run ∙ stood.lane;
    done = ap (λ (x : Ran). x.done) learns.run ∙ r.done.0 ∙ ap (λ (x : Ran). suc x.done) meets.run ∙ ap suc stood.done;
    stands = subst (λ (x : Ran). runs.StandsFor x (made_at after.sys.seat)) (sym learns.run) (subst (runs.StandsFor new.run) (sym learns.made) r.done.1);
    kernel = lane_kernel None r;
    sees = part_further s kernel before history n old.sys.seat after.sys.seat stood.sees (lane_goes None r) begins;
  }

  -- where a call of it was stopped
  pub lane_cut : (stop : Answer) → RunsSeated met new (Some stop)
      → (next : Event) × MadeTo s (suc k) n after.sys.seat (Some next) × (0 < after.sys.stops) × FullFor next.op (answer.JournalFull after.sys.used after.sys.need after.sys.cap)
  lane_cut stop r =
      let cut = cut_calls met.run (made_at new.sys.seat) stop r.cut in
      let script : met.run.script ≡ s = ap (λ (x : Ran). x.script) meets.run ∙ stood.script in
      let lane : met.run.lane ≡ n = ap (λ (x : Ran). x.lane) meets.run ∙ stood.lane in
      let done : met.run.done ≡ k = ap (λ (x : Ran). x.done) meets.run ∙ stood.done in
      let rose = r.stop.0 in
      let same : after.sys.stops ≡ new.sys.stops = ap (λ (x : SystemState). x.stops) learns.system in
      let last : answer.JournalFull after.sys.used after.sys.need after.sys.cap ≡ answer.JournalFull new.sys.used new.sys.need new.sys.cap =
      ap (λ (x : SystemState). answer.JournalFull x.used x.need x.cap) learns.system in (
        cut.0,
        subst (λ made. calls_before s n (suc k) (answers_of made) ≡ record { entries = events_of made; next = Some cut.0 }) (sym learns.made)
            ((λ i. calls_before (sym script i) (sym lane i) (suc (sym done i)) (answers_of (made_at new.sys.seat))) ∙ cut.1),
        omega (arith, rose, same),
        subst (FullFor cut.0.op) (r.stop.1 ∙ sym last) cut.2,
      )

  -- either way
  pub lane_made : (stop : Option Answer) → RunsSeated met new stop → (next : Option Event) × MadeTo s (suc k) n after.sys.seat next
  lane_made None r = (None, lane_done r)
  lane_made (Some stop) r = let cut = lane_cut stop r in (Some cut.0, cut.1)

  -- What it made of the whole, where it has no line there: what it made of the history before.
  pub idle_made : (stop : Option Answer) → RunsSeated met new stop → new.sys ≡ met.sys → IsPrefix before history
      → made_by n (record { config = config_of s; events = history }) ≡ made_at after.sys.seat → made_by n (record { config = config_of s; events = before }) ≡ made_at old.sys.seat
  idle_made stop r idle grows all =
      let made : made_at after.sys.seat ≡ made_at old.sys.seat = learns.made ∙ ap (λ (x : SystemState). made_at x.seat) idle ∙ meets.made in
      let part : made_at old.sys.seat ≡ made_by n (record { config = config_of s; events = old.sys.seat.seen }) = made_part s kernel before n old.sys.seat stood.sees in
      made_between s n old.sys.seat.seen before history stood.sees.begins grows (all ∙ made ∙ part) ∙ sym part

  -- Where it has met the first, it made all of that.
  pub met_made : met.sys.seat.seen ≡ before → made_by n (record { config = config_of s; events = before }) ≡ made_at old.sys.seat
  met_made is =
      let begins : IsPrefix met.sys.seat.seen before = subst (IsPrefix met.sys.seat.seen) is (begins_itself met.sys.seat.seen) in
      made_sees s kernel before n met.sys.seat (part_further s kernel before before n old.sys.seat met.sys.seat stood.sees meets.goes begins) is ∙ meets.made
