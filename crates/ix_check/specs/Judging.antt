-- How far a text was judged.
use Rattle.std.specs.Prelude.{◌≡◌, ℕ, ◌+◌, ◌≤◌, ◌^◌, true, List, [], length, Option, Some, None, slice_get}
use Rattle.std.specs.List.{list_all}
use Rattle.ix_model.specs.world.World.{World}
use Rattle.ix_model.specs.history.Events.{Event}
use Rattle.ix_model.specs.history.History.{History}
use Rattle.ix_script.specs.lines.Before.{form_told}
use Rattle.ix_script.specs.scripts.Scripts.{config_of}
use Rattle.ix_script.specs.declared.line.Line.{Line}
use Rattle.ix_asking.specs.Asking.{Answered, all_heard}
use Rattle.ix_lanes.specs.histories.Lanes.{lane_asks}
use Rattle.ix_replay.specs.declared.reporting.closing.Closing as telling
use Rattle.ix_replay.specs.declared.reporting.closing.Next.{Next}
use Rattle.ix_replay.specs.report.Fixed.{LanesNamed}
use Rattle.ix_replay.specs.report.Telling.{left_of, pieces_of}
use Rattle.ix_judging.specs.Bytes.{is_line, joined}
use Rattle.ix_judging.specs.Judge as theory
use Rattle.ix_judging.specs.Lanes.{State}
use Rattle.ix_judging.specs.Runs.{IsRun, reached}
use Rattle.ix_judging.specs.Walk.{Begins, Closing, Entries, Fails, Walk}
use Rattle.ix_check.specs.Plans.{begun, judged_plan}
use Rattle.ix_check.specs.Stepping.{LaneAt, next_call}
use Rattle.ix_check.specs.declared.judge.Judge.{Judge}
use Rattle.ix_check.specs.declared.stage.Stage.{Stage}
use Rattle.ix_check.specs.declared.stage.Stage.TheVariants as stage
use Rattle.ix_check.specs.declared.verdict.Verdict.{Verdict}
use Rattle.ix_check.specs.declared.verdict.Verdict.TheVariants as verdict

-- what an answer means
abbrev pub verdict_of : Verdict → theory.Verdict
verdict_of (verdict.Yes entries) = theory.Yes entries
verdict_of (verdict.No n) = theory.No n

-- where a walk over a text that claims to be a report of a script stands
abbrev pub Walked : Type 0
Walked = Walk World (List Answered) (List ℕ)

-- ---- lanes
-- A lane is that of a seat of a script. Of the answers by seats its calls had those of its own, and it asks for what is left then.
pub record IsLaneAt (s : List Line) (k : ℕ) (answers : List (List Answered)) (l : LaneAt) : Type 0 where
  pub script : l.script ≡ s
  pub seat : l.seat ≡ k
  pub given : List Answered
  pub had : slice_get answers k ≡ Some given
  pub left : l.asking ≡ all_heard (lane_asks s k) given

module _ {L : Type 0} (at_of : L → LaneAt) where
  -- the lanes of a script by seats, whose calls were answered so
  pub record LanesStand (s : List Line) (lanes : List L) (answers : List (List Answered)) : Type 0 where
    pub count : length lanes ≡ length answers
    pub each : (k : ℕ) (l : L) → slice_get lanes k ≡ Some l → IsLaneAt s k answers (at_of l)

  -- none of whose calls was made
  abbrev pub AreFirst : List Line → List L → Type 0
  AreFirst s lanes = LanesStand s lanes (begun s).lanes

  -- the lane of a seat has this call next, or there is none
  abbrev pub IsCalled : List L → Option Event → Option ℕ → Type 0
  IsCalled lanes call None = call ≡ None
  IsCalled lanes call (Some seat) =
      (e : Event) × (lane : L) × (call ≡ Some e) × (e.seat ≡ seat) × (slice_get lanes seat ≡ Some lane) × (next_call (at_of lane) ≡ Some e)

  -- ---- the entries
  -- A history of a script was made in turn, and came to a state, in which its lanes are.
  pub record IsAmong (s : List Line) (h : History) (lanes : List L) (state : State World (List Answered)) : Type 0 where
    pub named : LanesNamed s
    pub config : h.config ≡ config_of s
    pub run : IsRun (judged_plan s) (begun s) h.events
    pub comes : state ≡ reached (judged_plan s) (begun s) h.events
    pub stand : LanesStand s lanes state.lanes

-- ---- the closing lines
-- what closes the report of a history of a script, where this comes next
pub record IsClosing (s : List Line) (h : History) (next : Next) (c : telling.Closing) : Type 0 where
  pub form : c.form ≡ form_told s
  pub history : c.history.now ≡ h
  pub stage : c.next ≡ next

-- These closing lines are left, and the number of their first is not too great to be counted on.
pub record AreLeft (s : List Line) (h : History) (next : Next) (n : ℕ) (left : List (List ℕ)) : Type 0 where
  pub lines : list_all is_line left ≡ true
  pub text : (c : telling.Closing) → IsClosing s h next c → left_of c ≡ joined left
  pub few : (c : telling.Closing) → IsClosing s h next c → n + pieces_of c ≤ 2 ^ 40

-- ---- all
-- Of a script's text, judged with a history and lanes, a stage is where this walk stands.
abbrev pub Stands : {L : Type 0} → (L → LaneAt) → List Line → History → List L → Stage → Walked → Type 0
Stands at_of s h lanes stage.Begins walk = (walk ≡ Begins) × (h.events ≡ []) × IsAmong at_of s h lanes (begun s)
Stands at_of s h lanes stage.Entries walk = (state : State World (List Answered)) × (walk ≡ Entries (length h.events) state) × IsAmong at_of s h lanes state
Stands at_of s h lanes (stage.Closing next n) walk = (left : List (List ℕ)) × (walk ≡ Closing n (length h.events) left) × AreLeft s h next n left
Stands at_of s h lanes (stage.Fails n) walk = walk ≡ Fails n

-- ---- a judge
module _ {L : Type 0} (at_of : L → LaneAt) (s : List Line) (j : Judge L) where
  -- a judge of a script's text stands where this walk does
  abbrev pub IsAt : Walked → Type 0
  IsAt walk = Stands at_of s j.core j.lanes.items j.stage walk

  -- it has made its entries in turn, and came to this state
  abbrev pub CameTo : State World (List Answered) → Type 0
  CameTo state = IsAmong at_of s j.core j.lanes.items state
