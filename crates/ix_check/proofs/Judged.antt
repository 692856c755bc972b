-- The good histories of the theory are those of the script.
use Rattle.std.proofs.Common.{◌≡◌, ℕ, ◌+◌, ◌&&◌, nat_le, Bool, true, false, List, [], ◌∷◌, length, refl, sym, ap, ◌∙◌, if◌then◌else◌, ◌≤◌, ◌<◌, ◌++◌, Some, subst, arith}
use Rattle.std.{proofs.{Common.{nat_lt, inl, inr}, lemmas.List.length-replicate}, specs.{Cmp.Lexicographic.bytes_decides, List.list_all, Prelude.IfSome}}
use Rattle.ix_model.specs.{history.{Cost.{cost_of, cost_of_history}, Events.Event, Step.step_of}, opening.Opening.opening_world, world.World.World}
use Rattle.ix_script.specs.{declared.line.Line.Line, lines.Before.lanes_of, scripts.{Need.need, Scripts.config_of}}
use Rattle.ix_asking.specs.Asking.{Answered}
use Rattle.ix_lanes.specs.histories.{History.{IsHistory, phase_of, phases_never_fall}, Lanes.{calls_of, replies_of, LanesSoFar, entries_of}, Serial.answered}
use Rattle.ix_replay.specs.report.{Fixed.LanesNamed, Report.report_of}
use Rattle.ix_judging.specs.{Asking.IsScript, Bytes.JudgesBytes, Judge.{No, Verdict, Yes}, Lanes.{Calls, IsGood, never_falls, replies_from}, Runs.HoldsSoFar}
use Rattle.ix_judging.{specs.Runs.{IsRun, asks, reached}, proofs.{ByBytes.bytes_are_judged, GoodRuns.takes_hold, Scripts.{good_history, history_good, calls-asked, lawful}}}
use Rattle.ix_check.specs.{Plans.{begun, calls_as, judged_plan, judged_script, found_in}, Verdicts.{BeginsGood, IsGoodReport, IsVerdict, IsWrongAt}}
use Rattle.ix_check.proofs.{LaneCalls.script_lane, Printed.{names_tell, prints_lines, report_joined}}
use Rattle.ix_lanes.proofs.serially.{Costs.cost-push, Needs.next_fits}
use Rattle.ix_asking.specs.Lines as lines
use Rattle.ix_lanes.specs.histories.Lanes as lanes
use Rattle.ix_judging.specs.Asking as asking
use Rattle.ix_judging.specs.Bytes as theory

module _ (s : List Line) where
  pub replies_same : (k place : ℕ) (w : World) (events : List Event)
      → replies_from (judged_plan s) w place k events ≡ lanes.replies_from w place k events
  replies_same k place w [] = refl
  replies_same k place w (e ∷ events) = here _ (replies_same k (place + 1) _ events)
    where
      here : (b : Bool)
          → replies_from (judged_plan s) (step_of w place e).world (place + 1) k events
          ≡ lanes.replies_from (step_of w place e).world (place + 1) k events
          → (if b then answered (step_of w place e) ∷ replies_from (judged_plan s) (step_of w place e).world (place + 1) k events
          else replies_from (judged_plan s) (step_of w place e).world (place + 1) k events)
          ≡ (if b then answered (step_of w place e) ∷ lanes.replies_from (step_of w place e).world (place + 1) k events
          else lanes.replies_from (step_of w place e).world (place + 1) k events)
      here true rest = ap (λ rs. answered (step_of w place e) ∷ rs) rest
      here false rest = rest

  order_same : (events : List Event) → phases_never_fall s events ≡ never_falls (judged_plan s) events
  order_same [] = refl
  order_same (e ∷ []) = refl
  order_same (e ∷ f ∷ events) = ap (λ b. nat_le (phase_of s e.line) (phase_of s f.line) && b) (order_same (f ∷ events))

  abbrev pub w0 : World
  w0 = opening_world (config_of s)

  abbrev calls_back : Calls Event → lines.Calls
  calls_back c = record { entries = c.entries; next = c.next }

  to_history : (events : List Event) → IsHistory s events → asking.IsHistory (judged_script s) (length (lanes_of s)) w0 events
  unfolding replies_of
  to_history events h = record {
    seats = h.lanes.seats;
    calls = λ k within. ap (λ rs. calls_as (calls_of s k rs)) (replies_same k 1 w0 _) ∙ ap calls_as (h.lanes.calls k within);
    order = sym (order_same _) ∙ h.order;
  }

  from_history : (events : List Event) → asking.IsHistory (judged_script s) (length (lanes_of s)) w0 events → IsHistory s events
  unfolding replies_of
  from_history events h = record {
    lanes = record {
      seats = h.seats;
      calls = λ k within. ap (calls_of s k) (sym (replies_same k 1 w0 _)) ∙ ap calls_back (h.calls k within);
    };
    order = order_same _ ∙ h.order;
  }

  module _ (named : LanesNamed s) where
    pub is_script : IsScript (judged_script s) (length (lanes_of s))
    is_script = record {
      lanes = script_lane s;
      names = names_tell s named;
      equal = λ x y is. (bytes_decides x y).0 is;
      alike = λ x. (bytes_decides x x).1 refl;
    }

    pub to_good : (events : List Event) → IsHistory s events → IsGood (judged_plan s) (begun s) events
    to_good events h = history_good (judged_script s) _ is_script w0 _ (to_history _ h)

    pub from_good : (events : List Event) → IsGood (judged_plan s) (begun s) events → IsHistory s events
    from_good events good = from_history _ (good_history (judged_script s) _ is_script w0 _ good)

-- The journal has room for the next call of each lane, as long as the lanes take turns.
module _ (s : List Line) (named : LanesNamed s) (events : List Event) (run : IsRun (judged_plan s) (begun s) events) where
  abbrev count : ℕ
  count = length (lanes_of s)

  abbrev none : List Answered
  none = []

  holds : HoldsSoFar (judged_plan s) (begun s) events
  holds = takes_hold (judged_plan s) (begun s) _ run

  -- what a lane asks for, once it was answered as in the run
  asked_so : (k : ℕ) → k < count → calls_as (calls_of s k (replies_of s k events))
      ≡ record { entries = entries_of k events; next = asks (judged_plan s) (reached (judged_plan s) (begun s) events).lanes k }
  unfolding replies_of
  asked_so k below =
      ap (λ rs. calls_as (calls_of s k rs)) (sym (replies_same s k 1 _ _))
      ∙ sym (calls-asked (judged_script s) _ (is_script s named) k _ below)
      ∙ holds.calls k (subst (λ n. k < n) (sym (length-replicate count none)) below)

  so_far : LanesSoFar s events
  so_far = record {
    seats = subst (λ n. list_all (λ e. nat_lt e.seat n) events ≡ true) (length-replicate count none) holds.seats;
    calls = λ k below. ap (λ c. c.entries) (asked_so k below);
  }

  pub room : (k : ℕ) (e : Event) → k < count → asks (judged_plan s) (reached (judged_plan s) (begun s) events).lanes k ≡ Some e
      → cost_of_history events + cost_of e.op ≤ (config_of s).journal
  unfolding config_of
  room k e below is =
      let fits =
      subst (λ o. IfSome o (λ x. cost_of_history (events ++ x ∷ []) ≤ need s)) (ap (λ c. c.next) (asked_so k below) ∙ is) (next_fits s _ so_far k below) in
      omega (arith, fits, cost-push events e)

-- What is found by the walk is what is answered.
module _ (s : List Line) (named : LanesNamed s) where
  -- ---- good reports
  to_bytes : (text : List ℕ) → IsGoodReport s text → theory.IsGoodBytes (judged_plan s) (begun s) text
  to_bytes text g = (g.0, to_good s named _ g.1, g.2 ∙ report_joined s _)

  from_bytes : (text : List ℕ) → theory.IsGoodBytes (judged_plan s) (begun s) text → IsGoodReport s text
  from_bytes text g = (g.0, from_good s named _ g.1, g.2 ∙ sym (report_joined s _))

  to_front : (front : List ℕ) → BeginsGood s front → theory.BeginsGood (judged_plan s) (begun s) front
  to_front front b = (front ++ b.0, b.0, to_bytes _ b.1, refl)

  from_front : (front : List ℕ) → theory.BeginsGood (judged_plan s) (begun s) front → BeginsGood s front
  from_front front b = (b.1, subst (IsGoodReport s) b.3 (from_bytes _ b.2))

  -- ---- wrong lines
  to_wrong : (text : List ℕ) (n : ℕ) → IsWrongAt s text n → theory.IsWrongIn (judged_plan s) (begun s) text n
  to_wrong text n (inl short) = inl short
  to_wrong text n (inr none) = inr (λ b. none (from_front _ b))

  from_wrong : (text : List ℕ) (n : ℕ) → theory.IsWrongIn (judged_plan s) (begun s) text n → IsWrongAt s text n
  from_wrong text n (inl short) = inl short
  from_wrong text n (inr none) = inr (λ b. none (to_front _ b))

  -- ---- verdicts
  to_judged : (text : List ℕ) (v : Verdict) → IsVerdict s text v → JudgesBytes (judged_plan s) (begun s) text v
  to_judged text (Yes entries) is = (is.0, to_good s named _ is.1, is.2 ∙ report_joined s _, is.3)
  to_judged text (No n) is = record {
    not_good = λ g. is.not_good (from_bytes _ g);
    from = is.from;
    wrong = to_wrong text n is.wrong;
    least = λ m from w. is.least m from (from_wrong text m w);
  }

  from_judged : (text : List ℕ) (v : Verdict) → JudgesBytes (judged_plan s) (begun s) text v → IsVerdict s text v
  from_judged text (Yes entries) is = (is.0, from_good s named _ is.1, is.2 ∙ sym (report_joined s _), is.3)
  from_judged text (No n) is = record {
    not_good = λ g. is.not_good (to_bytes _ g);
    from = is.from;
    wrong = from_wrong text n is.wrong;
    least = λ m from w. is.least m from (to_wrong text m w);
  }

  abbrev none_yet : List Answered
  none_yet = []

  pub judged : (text : List ℕ) (v : Verdict) → (IsVerdict s text v → v ≡ found_in s text) × (v ≡ found_in s text → IsVerdict s text v)
  unfolding found_in
  judged text v =
      let count = length _ in
      let both = bytes_are_judged (judged_plan s) (prints_lines s named) _ (lawful (judged_script s) _ (is_script s named)) (begun s) _ v (length-replicate count none_yet) in
      (λ is. both.0 (to_judged _ v is), λ same. from_judged _ v (both.1 same))

  -- the report of a history is found good
  pub printed_is_good : (events : List Event) → IsHistory s events → found_in s (report_of s events) ≡ Yes (length events)
  printed_is_good events h = sym ((judged _ _).0 (events, h, refl, refl))
