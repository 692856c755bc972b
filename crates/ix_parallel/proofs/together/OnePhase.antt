-- What all lanes come to in a phase, in which some take part.
use Rattle.std.proofs.Common.{◌≡◌, ℕ, zero, suc, ◌<◌, List, [], ◌∷◌, length, get_or, is_some, Bool, true, false, Option, Some, None, refl, sym, ap, ◌∙◌, subst}
use Rattle.std.proofs.Common.{arith, slice_get, inl, inr, ◌⊎◌, ⊎_elim}
use Rattle.std.{specs.Prelude.All, proofs.lemmas.{Bool.cases_eq, Option.{slice_get-get_or, slice_get_within}}}
use mathlib.Core.List.{IsPrefix}
use Rattle.ix_gate.specs.Gate.{GateState}
use Rattle.ix_kernel.specs.Systems.{SystemState, made_at}
use Rattle.ix_model.specs.{history.{Events.Event, Seats.made_by}, declared.reply.Answer.Answer}
use Rattle.ix_script.specs.{lines.Before.lanes_of, scripts.{Scripts.config_of, Schedule.phases}, declared.line.Line.Line}
use Rattle.ix_lanes.specs.running.{Phases.lines_before, Runs.Ran, SideBySide.{AllRun, EachRuns, IsReady, first_stop}, Stretches.{HasNone, TellsPart}}
use Rattle.ix_lanes.specs.running.Runs as runs
use Rattle.ix_parallel.specs.{Between.{Between, CutShort, GetsTo, MadeAll, StagesWhere, TellParts, Waits}, Seats.Seated}
use Rattle.ix_parallel.specs.Meeting.{AllBegin, FirstLearns, LearnAll, LearnOfFirst, Learns, SameKernel}
use Rattle.ix_parallel.proofs.together.OneLane.{RunsSeated, comes_as_made, idle_made, lane_cut, lane_done, lane_goes, lane_kernel, lane_made, lane_waits}
use Rattle.ix_parallel.proofs.together.OneLane.{met_made}
use Rattle.ix_parallel.proofs.together.Seen.{begin_each_other, begins_further, begins_itself, part_further}

-- ---- lists, by places
pub place : {A : Type 0} → (xs : List A) (n : ℕ) → n < length xs → (x : A) × (slice_get xs n ≡ Some x)
place [] n h = absurd (omega (arith, h))
place (x ∷ xs) zero h = (x, refl)
place (x ∷ xs) (suc n) h = place xs n (omega (arith, h))

module _ {T : Type 0} (R : T → T → Option Answer → Type 0) where
  pub same_length : (olds news : List T) (stops : List (Option Answer)) → EachRuns R olds news stops → (length news ≡ length olds) × (length stops ≡ length olds)
  same_length [] [] [] h = (refl, refl)
  same_length [] [] (a ∷ stops) h = absurd h
  same_length [] (new ∷ news) stops h = absurd h
  same_length (old ∷ olds) [] stops h = absurd h
  same_length (old ∷ olds) (new ∷ news) [] h = absurd h
  same_length (old ∷ olds) (new ∷ news) (a ∷ stops) h = let later = same_length olds news stops h.1 in (ap suc later.0, ap suc later.1)

  pub at_place : (olds news : List T) (stops : List (Option Answer)) (n : ℕ) (old new : T) (stop : Option Answer) → EachRuns R olds news stops
      → slice_get olds n ≡ Some old → slice_get news n ≡ Some new
      → slice_get stops n ≡ Some stop → R old new stop
  at_place [] [] [] n old new stop h a b c = cc
  at_place [] [] (x ∷ stops) n old new stop h a b c = absurd h
  at_place [] (y ∷ news) stops n old new stop h a b c = absurd h
  at_place (x ∷ olds) [] stops n old new stop h a b c = absurd h
  at_place (x ∷ olds) (y ∷ news) [] n old new stop h a b c = absurd h
  at_place (x ∷ olds) (y ∷ news) (z ∷ stops) zero old new stop h a b c =
      let one : x ≡ old = cc in
      let two : y ≡ new = cc in
      let three : z ≡ stop = cc in
      subst (R old new) three (subst (λ t. R old t z) two (subst (λ t. R t y z) one h.0))
  at_place (x ∷ olds) (y ∷ news) (z ∷ stops) (suc n) old new stop h a b c = at_place olds news stops n old new stop h.1 a b c

-- no stop at all
none_stopped : (stops : List (Option Answer)) → first_stop stops ≡ None → (n : ℕ) (stop : Option Answer) → slice_get stops n ≡ Some stop → stop ≡ None
none_stopped [] h n stop at = cc
none_stopped (None ∷ stops) h zero stop at = cc
none_stopped (None ∷ stops) h (suc n) stop at = none_stopped stops h n stop at
none_stopped (Some a ∷ stops) h n stop at = cc

-- the first stop stands somewhere
one_stopped : (stops : List (Option Answer)) (stop : Answer) → first_stop stops ≡ Some stop → (n : ℕ) × (slice_get stops n ≡ Some (Some stop))
one_stopped [] stop h = cc
one_stopped (None ∷ stops) stop h = let later = one_stopped stops stop h in (suc later.0, later.1)
one_stopped (Some a ∷ stops) stop h = (0, ap Some h)

-- ---- before
-- a lane that comes to a phase, and once it has met the first
pub lanes_ready : (s : List Line) (kernel : GateState) (k end : ℕ) (olds mets : List Seated) → Between s kernel k olds → LearnAll olds mets → k < phases s → end ≡ length (lines_before (suc k) s)
    → All (IsReady (λ (x : SystemState). x.seat.number) (λ (x : SystemState). made_at x.seat) k end) mets
lanes_ready s kernel k end olds mets at learn low is = λ n lane within.
    let met : Seated = get_or mets n lane in
    let before = learn.each n met (slice_get-get_or mets n lane within) in
    let waits = at.each n before.0 before.1 in
    let run = before.2.run in
    record {
      next = sym (ap (λ (x : Ran). x.done) run ∙ waits.done);
      phase = subst (λ t. k < phases t) (sym (ap (λ (x : Ran). x.script) run ∙ waits.script)) low;
      end = is ∙ ap (λ t. length (lines_before (suc k) t)) (sym (ap (λ (x : Ran). x.script) run ∙ waits.script));
      seat = before.2.goes.number ∙ waits.sees.number ∙ sym (ap (λ (x : Ran). x.lane) run ∙ waits.lane);
      stands = subst (λ (x : Ran). runs.StandsFor x (made_at met.sys.seat)) (sym run) (subst (runs.StandsFor before.0.run) (sym before.2.made) waits.stands);
    }

-- all seats are at one kernel, also after a phase
pub kernel_before : (s : List Line) (kernel : GateState) (k : ℕ) (olds : List Seated) → Between s kernel k olds → SameKernel olds
kernel_before s kernel k olds at = (kernel, λ n lane here. (at.each n lane here).kernel)

pub kernel_after : (mets news : List Seated) (stop : Option Answer) → SameKernel mets → AllRun RunsSeated mets news stop → SameKernel news
kernel_after mets news stop (kernel, same) ran = (
  kernel,
  λ n new here.
      let within = slice_get_within news n new here in
      let both = same_length RunsSeated mets news ran.answers ran.each in
      let met = place mets n (omega (arith, within, both.0)) in
      let a = place ran.answers n (omega (arith, within, both.0, both.1)) in
      let runs = at_place RunsSeated mets news ran.answers n met.0 new a.0 ran.each met.1 here a.1 in
      runs.follows.0 ∙ same n met.0 met.1,
)

-- ---- stages
-- what holds of a lane in them may be said where less is known
pub stages_where : (P Q : ℕ → Type 0) (s : List Line) (k : ℕ) (events : List Event) → ((n : ℕ) → n < length (lanes_of s) → Q n → P n) → StagesWhere P s k events → StagesWhere Q s k events
stages_where P Q s zero events f h = h
stages_where P Q s (suc k) events f h = (h.0, h.1, λ n low q. h.2 n low (f n low q), stages_where P Q s k h.0 f h.3)

-- ---- after
module _ (s : List Line) (kernel : GateState) (k : ℕ) (olds mets news afters : List Seated) (parts : List Bool) (stops : List (Option Answer)) (at : Between s kernel k olds)
    (tell : TellParts k olds parts) (meet : LearnOfFirst parts (length olds) olds mets) (each : EachRuns RunsSeated mets news stops)
    (hear : FirstLearns parts (length news) news afters) where
  lengths : (length news ≡ length mets) × (length stops ≡ length mets)
  lengths = same_length RunsSeated mets news stops each

  count : length afters ≡ length (lanes_of s)
  count = hear.learn.count ∙ lengths.0 ∙ meet.learn.count ∙ at.count

  first : (x : Seated) × (slice_get afters 0 ≡ Some x)
  first = place afters 0 (let some = at.some in let same = count in omega (arith, some, same))

  history : List Event
  history = first.0.sys.seat.seen

  -- one lane
  record Went (n : ℕ) (after : Seated) : Type 0 where
    old : Seated
    met : Seated
    new : Seated
    stop : Option Answer
    old_at : slice_get olds n ≡ Some old
    met_at : slice_get mets n ≡ Some met
    new_at : slice_get news n ≡ Some new
    stood : Waits s kernel k at.history n old
    meets : Learns old met
    learns : Learns new after
    stops_so : slice_get stops n ≡ Some stop
    runs : RunsSeated met new stop

  went : (n : ℕ) (after : Seated) → slice_get afters n ≡ Some after → Went n after
  went n after here =
      let within : n < length afters = slice_get_within afters n after here in
      let new = hear.learn.each n after here in
      let even = hear.learn.count in
      let both = lengths in
      let met = place mets n (omega (arith, within, even, both.0)) in
      let old = meet.learn.each n met.0 met.1 in
      let stop = place stops n (omega (arith, within, even, both.0, both.1)) in
      record {
        old = old.0;
        met = met.0;
        new = new.0;
        stop = stop.0;
        old_at = old.1;
        met_at = met.1;
        new_at = new.1;
        stood = at.each n old.0 old.1;
        meets = old.2;
        learns = new.2;
        stops_so = stop.1;
        runs = at_place RunsSeated mets news stops n met.0 new.0 stop.0 each met.1 new.1 stop.1;
      }

  -- the first has seen more
  begins : IsPrefix at.history history
  unfolding history first
  begins =
      let w = went 0 first.0 first.1 in
      subst (λ es. IsPrefix es first.0.sys.seat.seen) (at.first w.old w.old_at)
      (lane_goes s kernel k 0 at.history first.0.sys.seat.seen w.old w.met w.new first.0 w.stood w.meets w.learns w.stop w.runs).seen

  -- a lane takes part in the phase, or its system stayed
  part_or_idle : (n : ℕ) (after : Seated) → (w : Went n after) → (slice_get parts n ≡ Some true) ⊎ (w.new.sys ≡ w.met.sys)
  part_or_idle n after w =
      let told = tell n w.old w.old_at w.stood.stands.between (sym w.stood.done) in
      by_part told.0 told.1 told.2
    where
      by_part : (b : Bool) → slice_get parts n ≡ Some b → TellsPart w.old.run.script w.old.run.lane k b → (slice_get parts n ≡ Some true) ⊎ (w.new.sys ≡ w.met.sys)
      by_part true is part = inl is
      by_part false is none =
          let same : w.met.run ≡ w.old.run = w.meets.run in
          let done : w.met.run.done ≡ k = ap (λ (x : Ran). x.done) same ∙ w.stood.done in
          inr (w.runs.idle (subst (λ m. HasNone w.met.run.script w.met.run.lane m) (sym done) (subst (λ (x : Ran). HasNone x.script x.lane k) (sym same) none)))

  olds_begin : AllBegin at.history olds
  olds_begin n lane here = (at.each n lane here).sees.begins

  -- each has seen a beginning of what the first has
  seen : (n : ℕ) (after : Seated) → slice_get afters n ≡ Some after → IsPrefix after.sys.seat.seen history
  unfolding history first
  seen n after here = elim (cases_eq n 0) [
    | inl none ↦
        let is : first.0 ≡ after = let a = first.1 in let b = subst (λ j. slice_get afters j ≡ Some after) none here in cc in
        subst (λ (x : Seated). IsPrefix x.sys.seat.seen first.0.sys.seat.seen) is (begins_itself first.0.sys.seat.seen)
    | inr later ↦
        let some : 0 < n = grind (arith, later) in
        let w = went n after here in
        let within = slice_get_within news n w.new w.new_at in
        ⊎_elim (λ (takes : slice_get parts n ≡ Some true). hear.sees n some within takes first.0 after first.1 here)
        (λ (idle : w.new.sys ≡ w.met.sys).
        let same : w.new ≡ after = let a = hear.others n some in let b = w.new_at in cc in
        let low : IsPrefix w.met.sys.seat.seen at.history = meet.within at.history olds_begin n w.met w.met_at in
        begins_further after.sys.seat.seen at.history first.0.sys.seat.seen
        (subst (λ (x : Seated). IsPrefix x.sys.seat.seen at.history) same (subst (λ (x : SystemState). IsPrefix x.seat.seen at.history) (sym idle) low)) begins)
        (part_or_idle n after w)
  ]

  -- what a lane made of the history before, where it made all that its number has in this one
  known : (n : ℕ) → n < length (lanes_of s) → MadeAll s history afters n → MadeAll s at.history olds n
  known n low all lane there =
      let x = place afters n (let same = count in omega (arith, low, same)) in
      let w = went n x.0 x.1 in
      let is : w.old ≡ lane = let a = w.old_at in cc in
      subst (λ (y : Seated). made_by n (record { config = config_of s; events = at.history }) ≡ made_at y.sys.seat) is
      (elim (cases_eq n 0) [
        | inl none ↦
            let same : slice_get mets n ≡ slice_get olds n = ap (slice_get mets) none ∙ meet.first ∙ ap (slice_get olds) (sym none) in
            let stays : w.old ≡ w.met = let a = w.old_at in let b = w.met_at in cc in
            let begun : w.old.sys.seat.seen ≡ at.history = at.first w.old (subst (λ j. slice_get olds j ≡ Some w.old) none w.old_at) in
            met_made s kernel k n at.history history w.old w.met w.new x.0 w.stood w.meets w.learns (subst (λ (y : Seated). y.sys.seat.seen ≡ at.history) stays begun)
        | inr later ↦
            let some : 0 < n = grind (arith, later) in
            ⊎_elim (λ (takes : slice_get parts n ≡ Some true).
            met_made s kernel k n at.history history w.old w.met w.new x.0 w.stood w.meets w.learns (met_first n w.met w.met_at some takes))
            (λ (idle : w.new.sys ≡ w.met.sys). idle_made s kernel k n at.history history w.old w.met w.new x.0 w.stood w.meets w.learns w.stop w.runs idle begins (all x.0 x.1))
            (part_or_idle n x.0 w)
      ])
    where
      -- one that takes part has seen what the first has
      met_first : (n : ℕ) (met : Seated) → slice_get mets n ≡ Some met → 0 < n → slice_get parts n ≡ Some true → met.sys.seat.seen ≡ at.history
      met_first n met here some takes =
          let within = slice_get_within mets n met here in
          let even = meet.learn.count in
          let head = place olds 0 (omega (arith, within, even, some)) in
          let same : head.0.sys.seat.seen ≡ at.history = at.first head.0 head.1 in
          begin_each_other met.sys.seat.seen at.history (meet.within at.history olds_begin n met here)
          (subst (λ es. IsPrefix es met.sys.seat.seen) same (meet.sees n some (omega (arith, within, even)) takes met head.0 here (meet.first ∙ head.1)))

  after_at : (n : ℕ) → n < length (lanes_of s) → (x : Seated) × (slice_get afters n ≡ Some x)
  after_at n low = place afters n (let same = count in omega (arith, low, same))

  first_is : (lane : Seated) → slice_get afters 0 ≡ Some lane → lane.sys.seat.seen ≡ history
  unfolding history first
  first_is lane here = let is : lane ≡ first.0 = let a = first.1 in cc in ap (λ (x : Seated). x.sys.seat.seen) is

  pub phase_done : first_stop stops ≡ None → Between s kernel (suc k) afters
  phase_done none =
      let goes : (n : ℕ) (after : Seated) (w : Went n after) → RunsSeated w.met w.new None =
      λ n after w. subst (RunsSeated w.met w.new) (none_stopped stops none n w.stop w.stops_so) w.runs in
      record {
        history = history;
        stages = (
          at.history,
          begins,
          λ n low all. let x = after_at n low in let w = went n x.0 x.1 in
              comes_as_made s (suc k) history n x.0.sys.seat None (all x.0 x.1)
              (lane_done s kernel k n at.history history w.old w.met w.new x.0 w.stood w.meets w.learns (goes n x.0 w)),
          stages_where (MadeAll s at.history olds) (MadeAll s history afters) s k at.history known at.stages,
        );
        some = at.some;
        count = count;
        first = first_is;
        each = λ n after here. let w = went n after here in
            lane_waits s kernel k n at.history history w.old w.met w.new after w.stood w.meets w.learns (goes n after w) (seen n after here);
      }

  pub phase_stopped : (stop : Answer) → first_stop stops ≡ Some stop → CutShort s kernel afters
  phase_stopped stop is =
      let place_of = one_stopped stops stop is in
      let n : ℕ = place_of.0 in
      let within = slice_get_within stops n (Some stop) place_of.1 in
      let both = lengths in
      let even = count in
      let heard = hear.learn.count in
      let low : n < length (lanes_of s) = omega (arith, within, both.0, both.1, even, heard) in
      let x = after_at n low in
      let w = went n x.0 x.1 in
      let same : w.stop ≡ Some stop = let h = w.stops_so in let p = place_of.1 in cc in
      let cut = lane_cut s kernel k n at.history history w.old w.met w.new x.0 w.stood w.meets w.learns stop (subst (RunsSeated w.met w.new) same w.runs) in
      record {
        history = history;
        some = at.some;
        count = count;
        first = first_is;
        sees = λ m after here. let v = went m after here in (
          lane_kernel s kernel k m at.history history v.old v.met v.new after v.stood v.meets v.learns v.stop v.runs,
          part_further s kernel at.history history m v.old.sys.seat after.sys.seat v.stood.sees
              (lane_goes s kernel k m at.history history v.old v.met v.new after v.stood v.meets v.learns v.stop v.runs) (seen m after here),
        );
        phases = suc k;
        made = λ m after here. let v = went m after here in lane_made s kernel k m at.history history v.old v.met v.new after v.stood v.meets v.learns v.stop v.runs;
        stopped = n;
        lane = x.0;
        here = x.1;
        next = cut.0;
        cut = cut.1;
        stops = cut.2;
        full = cut.3;
      }

-- the next phase was run
pub runs_on : (s : List Line) (kernel : GateState) (k : ℕ) (olds mets news afters : List Seated) (parts : List Bool) (stop : Option Answer) → Between s kernel k olds
    → TellParts k olds parts → LearnOfFirst parts (length olds) olds mets → AllRun RunsSeated mets news stop → FirstLearns parts (length news) news afters → GetsTo s kernel (suc k) afters stop
runs_on s kernel k olds mets news afters parts None at tell meet ran hear = phase_done s kernel k olds mets news afters parts ran.answers at tell meet ran.each hear (sym ran.first)
runs_on s kernel k olds mets news afters parts (Some stop) at tell meet ran hear =
    phase_stopped s kernel k olds mets news afters parts ran.answers at tell meet ran.each hear stop (sym ran.first)

-- a stop is one, whatever phase was run
pub stops_for_all : (s : List Line) (kernel : GateState) (k m : ℕ) (lanes : List Seated) (stop : Option Answer) → is_some stop ≡ true → GetsTo s kernel k lanes stop → GetsTo s kernel m lanes stop
stops_for_all s kernel k m lanes None is ran = cc
stops_for_all s kernel k m lanes (Some stop) is ran = ran

-- without a stop the phase is done
pub goes_on : (s : List Line) (kernel : GateState) (k : ℕ) (lanes : List Seated) (stop : Option Answer) → is_some stop ≡ false → GetsTo s kernel k lanes stop → Between s kernel k lanes
goes_on s kernel k lanes None is ran = ran
goes_on s kernel k lanes (Some stop) is ran = cc
