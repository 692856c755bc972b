-- The lanes before the first phase, and once each has met the first behind the last one.
use Rattle.std.proofs.Common.{◌≡◌, ℕ, zero, suc, ◌<◌, Bool, true, List, length, replicate, Option, Some, sym, ap, ◌∙◌, subst, arith, slice_get, inl, inr, None}
use Rattle.std.proofs.lemmas.{Bool.cases_eq, List.{get_or-replicate, length-replicate}, Option.{slice_get-get_or, slice_get_within}}
use mathlib.Core.List.{IsPrefix}
use Rattle.ix_asking.specs.{Lines.events_of, Runs.answers_of}
use Rattle.ix_gate.specs.Gate.{GateState}
use Rattle.ix_kernel.specs.Systems.{SystemState, made_at}
use Rattle.ix_model.specs.{history.{Events.Event, Made.Made, Seats.made_by, Systems.FullFor}, declared.reply.Answer.Answer}
use Rattle.ix_model.specs.declared.reply.Answer.TheVariants as answer
use Rattle.ix_script.specs.{lines.Before.lanes_of, scripts.Scripts.config_of, declared.line.Line.Line}
use Rattle.ix_lanes.specs.running.{Phases.calls_before, Runs.Ran}
use Rattle.ix_lanes.specs.running.Runs as runs
use Rattle.ix_parallel.specs.{Between.{Between, CutShort, GetsTo, MadeAll, MadeTo, SeesPart, StagesWhere}, Meeting.{AllBegin, LearnOfFirst, Learns, SameKernel}}
use Rattle.ix_parallel.specs.{Seats.{AreStopped, AtPhase, Runs, Seated, Sees}, Stages.{ComesTo, Stages}}
use Rattle.ix_parallel.proofs.together.{OneLane.comes_as_made, OnePhase.place, Seen.{begin_each_other, made_sees, part_further, part_sees, sees_part}}

-- ---- before
stages_known : (P : ℕ → Type 0) (s : List Line) (k : ℕ) (events : List Event) → Stages s k events → StagesWhere P s k events
stages_known P s zero events h = h
stages_known P s (suc k) events h = (h.0, h.1, λ n low p. h.2 n low, stages_known P s k h.0 h.3)

pub at_first : (s : List Line) (kernel : GateState) (k : ℕ) (lanes : List Seated) → AtPhase s kernel k lanes → Between s kernel k lanes
at_first s kernel k lanes at = record {
  history = at.history;
  stages = stages_known (MadeAll s at.history lanes) s k at.history at.stages;
  some = at.some;
  count = at.count;
  first = λ lane here. (at.each 0 lane here).sees.seen;
  each = λ n lane here. let is = at.each n lane here in record {
    script = is.script;
    lane = is.lane;
    done = is.done;
    stands = is.stands;
    kernel = is.kernel;
    sees = sees_part s kernel at.history n lane.sys.seat is.sees;
  };
}

-- ---- behind the last phase
stages_all : (P : ℕ → Type 0) (s : List Line) (k : ℕ) (events : List Event) → ((n : ℕ) → n < length (lanes_of s) → P n) → StagesWhere P s k events → Stages s k events
stages_all P s zero events f h = h
stages_all P s (suc k) events f h = (h.0, h.1, λ n low. h.2 n low (f n low), stages_all P s k h.0 f h.3)

-- all lanes take part
pub all_parts : (n : ℕ) → n < 64 → slice_get (replicate 64 true) n ≡ Some true
all_parts n low =
    slice_get-get_or (replicate 64 true) n true (let long = length-replicate 64 true in omega (arith, low, long)) ∙ ap Some (get_or-replicate 64 n true true low)

-- what a seat made, where it is known of another one that made the same
made_same : (s : List Line) (k n : ℕ) (one other : Seated) (next : Option Event) → made_at other.sys.seat ≡ made_at one.sys.seat → MadeTo s k n one.sys.seat next → MadeTo s k n other.sys.seat next
made_same s k n one other next same h =
    subst (λ (made : List Made). calls_before s n k (answers_of made) ≡ record { entries = events_of made; next = next }) (sym same) h

module _ (s : List Line) (kernel : GateState) (history : List Event) (lanes afters : List Seated) (some : 0 < length (lanes_of s)) (count : length lanes ≡ length (lanes_of s))
    (first : (lane : Seated) → slice_get lanes 0 ≡ Some lane → lane.sys.seat.seen ≡ history)
    (sees : (n : ℕ) (lane : Seated) → slice_get lanes n ≡ Some lane → SeesPart s kernel history n lane.sys.seat)
    (parts : List Bool) (all : (n : ℕ) → n < length lanes → slice_get parts n ≡ Some true) (meet : LearnOfFirst parts (length lanes) lanes afters) where
  begin : AllBegin history lanes
  begin n lane here = (sees n lane here).begins

  -- all have seen what the first has
  all_seen : (n : ℕ) (after : Seated) → slice_get afters n ≡ Some after → after.sys.seat.seen ≡ history
  all_seen n after here = elim (cases_eq n 0) [
    | inl none ↦ first after (sym meet.first ∙ subst (λ j. slice_get afters j ≡ Some after) none here)
    | inr later ↦
        let more : 0 < n = grind (arith, later) in
        let within = slice_get_within afters n after here in
        let even = meet.learn.count in
        let low : n < length lanes = omega (arith, within, even) in
        let head = place lanes 0 (omega (arith, some, count)) in
        begin_each_other after.sys.seat.seen history (meet.within history begin n after here)
        (subst (λ es. IsPrefix es after.sys.seat.seen) (first head.0 head.1) (meet.sees n more low (all n low) after head.0 here (meet.first ∙ head.1)))
  ]

  part : (n : ℕ) (after : Seated) → slice_get afters n ≡ Some after → SeesPart s kernel history n after.sys.seat
  part n after here =
      let before = meet.learn.each n after here in
      part_further s kernel history history n before.0.sys.seat after.sys.seat (sees n before.0 before.1) before.2.goes (meet.within history begin n after here)

  all_see : (n : ℕ) (after : Seated) → slice_get afters n ≡ Some after → Sees s kernel history n after.sys.seat
  all_see n after here = part_sees s kernel history n after.sys.seat (part n after here) (all_seen n after here)

  all_made : (n : ℕ) (after : Seated) → slice_get afters n ≡ Some after → made_by n (record { config = config_of s; events = history }) ≡ made_at after.sys.seat
  all_made n after here = made_sees s kernel history n after.sys.seat (part n after here) (all_seen n after here)

  at_place : (n : ℕ) → n < length (lanes_of s) → (after : Seated) × (slice_get afters n ≡ Some after)
  at_place n low = place afters n (let even = meet.learn.count in omega (arith, low, count, even))

  all_known : (n : ℕ) → n < length (lanes_of s) → MadeAll s history lanes n
  all_known n low lane there =
      let x = at_place n low in
      let before = meet.learn.each n x.0 x.1 in
      let is : before.0 ≡ lane = let a = before.1 in cc in
      subst (λ (y : Seated). made_by n (record { config = config_of s; events = history }) ≡ made_at y.sys.seat) is (all_made n x.0 x.1 ∙ before.2.made)

  -- what the lane of a number comes to
  made_comes : (k n : ℕ) (after before : Seated) (next : Option Event) → slice_get afters n ≡ Some after → Learns before after → MadeTo s k n before.sys.seat next → ComesTo s k history n next
  made_comes k n after before next here learns h = comes_as_made s k history n after.sys.seat next (all_made n after here) (made_same s k n before after next learns.made h)

-- the seats of all lanes, of which the first has seen all
pub all_met : (s : List Line) (kernel : GateState) (k : ℕ) (lanes afters : List Seated) (parts : List Bool) → Between s kernel k lanes → ((n : ℕ) → n < length lanes → slice_get parts n ≡ Some true)
    → LearnOfFirst parts (length lanes) lanes afters → AtPhase s kernel k afters
all_met s kernel k lanes afters parts at all meet =
    let sees : (n : ℕ) (lane : Seated) → slice_get lanes n ≡ Some lane → SeesPart s kernel at.history n lane.sys.seat = λ n lane here. (at.each n lane here).sees in
    record {
      history = at.history;
      stages = stages_all (MadeAll s at.history lanes) s k at.history (all_known s kernel at.history lanes afters at.some at.count at.first sees parts all meet) at.stages;
      some = at.some;
      count = meet.learn.count ∙ at.count;
      each = λ n after here.
          let before = meet.learn.each n after here in
          let is = at.each n before.0 before.1 in
          let run = before.2.run in
          record {
            script = ap (λ (x : Ran). x.script) run ∙ is.script;
            lane = ap (λ (x : Ran). x.lane) run ∙ is.lane;
            done = ap (λ (x : Ran). x.done) run ∙ is.done;
            stands = subst (λ (x : Ran). runs.StandsFor x (made_at after.sys.seat)) (sym run) (subst (runs.StandsFor before.0.run) (sym before.2.made) is.stands);
            kernel = ap (λ (x : SystemState). x.kernel) before.2.system ∙ is.kernel;
            sees = all_see s kernel at.history lanes afters at.some at.count at.first sees parts all meet n after here;
          };
    }

pub all_met_cut : (s : List Line) (kernel : GateState) (lanes afters : List Seated) (parts : List Bool) → CutShort s kernel lanes → ((n : ℕ) → n < length lanes → slice_get parts n ≡ Some true)
    → LearnOfFirst parts (length lanes) lanes afters → AreStopped s kernel afters
all_met_cut s kernel lanes afters parts at all meet =
    let sees : (n : ℕ) (lane : Seated) → slice_get lanes n ≡ Some lane → SeesPart s kernel at.history n lane.sys.seat = λ n lane here. (at.sees n lane here).1 in
    let low : at.stopped < length (lanes_of s) = let within = slice_get_within lanes at.stopped at.lane at.here in let even = at.count in omega (arith, within, even) in
    let find : (n : ℕ) → n < length (lanes_of s) → (after : Seated) × (slice_get afters n ≡ Some after) =
    at_place s kernel at.history lanes afters at.some at.count at.first sees parts all meet in
    let comes : (k n : ℕ) (after before : Seated) (next : Option Event) → slice_get afters n ≡ Some after → Learns before after → MadeTo s k n before.sys.seat next → ComesTo s k at.history n next =
    made_comes s kernel at.history lanes afters at.some at.count at.first sees parts all meet in
    let x = find at.stopped low in
    let before = meet.learn.each at.stopped x.0 x.1 in
    let is : at.lane ≡ before.0 = let a = at.here in let b = before.1 in cc in
    let learns : Learns at.lane x.0 = subst (λ (y : Seated). Learns y x.0) (sym is) before.2 in
    let rose = at.stops in
    let same : x.0.sys.stops ≡ at.lane.sys.stops = ap (λ (y : SystemState). y.stops) learns.system in
    record {
      history = at.history;
      count = meet.learn.count ∙ at.count;
      sees = λ n after here. let was = meet.learn.each n after here in (
        ap (λ (y : SystemState). y.kernel) was.2.system ∙ (at.sees n was.0 was.1).0,
        all_see s kernel at.history lanes afters at.some at.count at.first sees parts all meet n after here,
      );
      stopped = at.stopped;
      next = at.next;
      asks = record {
        phases = at.phases;
        each = λ n n_low.
            let y = find n n_low in
            let was = meet.learn.each n y.0 y.1 in
            let made = at.made n was.0 was.1 in
            (made.0, comes at.phases n y.0 was.0 made.0 y.1 was.2 made.1);
        within = low;
        here = comes at.phases at.stopped x.0 at.lane (Some at.next) x.1 learns at.cut;
      };
      lane = x.0;
      here = x.1;
      stops = omega (arith, rose, same);
      full = subst (FullFor at.next.op) (sym (ap (λ (y : SystemState). answer.JournalFull y.used y.need y.cap) learns.system)) at.full;
    }

pub all_met_either : (s : List Line) (kernel : GateState) (k : ℕ) (lanes afters : List Seated) (parts : List Bool) (stop : Option Answer) → GetsTo s kernel k lanes stop
    → ((n : ℕ) → n < length lanes → slice_get parts n ≡ Some true) → LearnOfFirst parts (length lanes) lanes afters → Runs s kernel k afters stop
all_met_either s kernel k lanes afters parts None at all meet = all_met s kernel k lanes afters parts at all meet
all_met_either s kernel k lanes afters parts (Some stop) at all meet = all_met_cut s kernel lanes afters parts at all meet

-- all seats are at one kernel
pub kernel_of : (s : List Line) (kernel : GateState) (k : ℕ) (lanes : List Seated) (stop : Option Answer) → GetsTo s kernel k lanes stop → SameKernel lanes
kernel_of s kernel k lanes None at = (kernel, λ n lane here. (at.each n lane here).kernel)
kernel_of s kernel k lanes (Some stop) at = (kernel, λ n lane here. (at.sees n lane here).0)
