-- The end of all phases.
use Rattle.std.specs.{List.list_all, Prelude.All}
use Rattle.std.proofs.Common.{◌≡◌, ℕ, ◌≤◌, nat_lt, List, [], ◌++◌, length, take, drop, Option, Some, None, is_some, true, false, refl, sym, ap, ◌∙◌, subst}
use Rattle.std.proofs.Common.{arith}
use Rattle.ix_gate.specs.{Gate.GateState, Seat.StandsFor}
use Rattle.ix_kernel.specs.Seen.{KSeatState}
use Rattle.ix_model.specs.{history.{Cost.cost_of_history, Events.Event}, declared.{config.Config.Config, reply.Answer.Answer}}
use Rattle.ix_script.specs.{lines.Before.lanes_of, scripts.{Need.need, Scripts.config_of, Schedule.phases}, declared.line.Line.Line}
use Rattle.ix_lanes.specs.histories.History.{IsHistory}
use Rattle.ix_parallel.specs.{Joining.{AllFilled, AllSee, Ended, IsFull, Joined, StandsForAll}, Seats.{AreStopped, AtPhase, Runs, Seated}, Stages.Stages}
use Rattle.ix_parallel.proofs.together.{Full.never_full, Joining.{all_of_seats, written_over}, Whole.stages_make}

-- the seats of all lanes have seen one history
pub see_one : (s : List Line) (kernel : GateState) (k : ℕ) (lanes : List Seated) (stop : Option Answer) → Runs s kernel k lanes stop → (history : List Event) × AllSee s kernel history lanes
see_one s kernel k lanes None at = (at.history, λ n lane here. let stands = at.each n lane here in (stands.kernel, stands.sees))
see_one s kernel k lanes (Some stop) st = (st.history, st.sees)

pub count_same : (s : List Line) (kernel : GateState) (k : ℕ) (lanes : List Seated) (stop : Option Answer) → Runs s kernel k lanes stop → length lanes ≡ length (lanes_of s)
count_same s kernel k lanes None at = at.count
count_same s kernel k lanes (Some stop) st = st.count

-- the lanes after all phases, as they stand in their list again
pub lanes_ran : (s : List Line) (kernel : GateState) (old view new : List Seated) (len : ℕ) (stop : Option Answer) → AtPhase s kernel 0 old → view ≡ old → len ≡ length old → length new ≡ length view
    → ((at : GateState) → AtPhase s at 0 view → Runs s at (phases s) new stop) → Runs s kernel (phases s) (take len (new ++ drop (length new) old)) stop
lanes_ran s kernel old view new len stop at is all even run =
    subst (λ (l : List Seated). Runs s kernel (phases s) l stop) (sym (written_over old new len (even ∙ ap length is) all)) (run kernel (subst (AtPhase s kernel 0) (sym is) at))

journal_is : (s : List Line) → (config_of s).journal ≡ need s
unfolding config_of
journal_is s = refl

-- one seat is left
module _ (s : List Line) (kernel : GateState) (lanes : List Seated) (seat : KSeatState) (joined : (t : List Line) (history : List Event)
    → AllSee t kernel history lanes → Joined t kernel history (length lanes) seat)
    (filled : AllFilled lanes) (seats : kernel.seats ≡ length (lanes_of s)) where
  stand_for_all : (stop : Option Answer) (ran : Runs s kernel (phases s) lanes stop) → Ended s (see_one s kernel (phases s) lanes stop ran).0 stop → StandsForAll s kernel seat stop
  stand_for_all stop ran ended =
      let see = see_one s kernel (phases s) lanes stop ran in
      let all : Joined s kernel see.0 (length lanes) seat = joined s see.0 see.1 in
      record {
        seats = seats;
        joined = subst (λ n. Joined s kernel seat.seen n seat) (count_same s kernel (phases s) lanes stop ran) (subst (λ es. Joined s kernel es (length lanes) seat) (sym all.seen) all);
        ended = subst (λ es. Ended s es stop) (sym all.seen) ended;
      }

  full_there : (st : AreStopped s kernel lanes) → IsFull s st.history
  full_there st =
      let sees = (st.sees st.stopped st.lane st.here).1 in
      let told = filled st.stopped st.lane st.here st.stops in
      record {
        stopped = st.stopped;
        next = st.next;
        asks = st.asks;
        used = st.lane.sys.used;
        cost = st.lane.sys.need;
        cap = st.lane.sys.cap;
        full = st.full;
        little = subst (λ es. st.lane.sys.used ≤ cost_of_history es) sees.seen told.0;
        room = told.1 (config_of s) sees.base ∙ journal_is s;
      }

  pub one_is_left : (stop : Option Answer) → Runs s kernel (phases s) lanes stop → StandsForAll s kernel seat stop
  unfolding see_one
  one_is_left None at = stand_for_all None at at.stages
  one_is_left (Some stop) st = stand_for_all (Some stop) st (full_there st)

-- ---- the core
module _ (s : List Line) (kernel : GateState) (seat : KSeatState) (config : Config) (events : List Event) (base : seat.base ≡ Some config) (seen : events
    ≡ seat.seen) (entries : All (λ (e : Event). StandsFor seat e.seat) events) where
  pub config_same : (stop : Option Answer) → StandsForAll s kernel seat stop → config ≡ config_of s
  config_same stop h = let a : Some config ≡ Some (config_of s) = sym base ∙ h.joined.base in cc

  of_seats : (stop : Option Answer) → StandsForAll s kernel seat stop → list_all (λ e. nat_lt e.seat (length (lanes_of s))) events ≡ true
  of_seats stop h = all_of_seats (length (lanes_of s)) seat events h.joined.only entries

  pub some_never : (stop : Option Answer) → is_some stop ≡ true → StandsForAll s kernel seat stop → ⊥
  some_never None is h = cc
  some_never (Some stop) is h = never_full s events (of_seats (Some stop) h) (subst (IsFull s) (sym seen) h.ended)

  pub none_made_it : (stop : Option Answer) → is_some stop ≡ false → StandsForAll s kernel seat stop → IsHistory s events
  none_made_it None is h = stages_make s events (subst (Stages s (phases s)) (sym seen) h.ended) (of_seats None h)
  none_made_it (Some stop) is h = cc

-- a script without lanes
pub empty_history : (s : List Line) → length (lanes_of s) ≡ 0 → IsHistory s []
empty_history s none = record {
  lanes = record { seats = refl; calls = λ seat low. absurd (omega (arith, low, none)) };
  order = refl;
}
