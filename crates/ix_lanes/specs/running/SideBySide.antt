-- The lanes of a phase, each with the system that makes its calls.
use Rattle.std.specs.Prelude.{◌≡◌, ℕ, suc, ◌<◌, List, [], ◌∷◌, length, Option, None, IfSome, IfNone}
use Rattle.std.specs.Option.{option_or}
use mathlib.Core.List.{IsPrefix}
use Rattle.ix_model.specs.history.Made.{Made}
use Rattle.ix_model.specs.history.Systems.{one_more}
use Rattle.ix_model.specs.declared.reply.Answer.{Answer}
use Rattle.ix_lanes.specs.declared.running.side_by_side.Lane.{Lane}
use Rattle.ix_script.specs.scripts.Schedule.{phases}
use Rattle.ix_lanes.specs.running.Phases.{lines_before}
use Rattle.ix_lanes.specs.running.Runs.{CutOff, StandsFor}
use Rattle.ix_lanes.specs.running.Stretches.{HasNone}

-- the first of these answers that there is
abbrev pub first_stop : List (Option Answer) → Option Answer
first_stop [] = None
first_stop (answer ∷ answers) = option_or answer (first_stop answers)

module _ {S : Type 0} (seat_of : S → ℕ) (made_of : S → List Made) (next_phase next_end : ℕ) where
  -- A lane comes to its next phase: it is a phase of the script, up to this index, the system has the lane's seat, and the run stands for what the
  -- system has made.
  pub record IsReady (lane : Lane S) : Type 0 where
    pub next : next_phase ≡ lane.run.done
    pub phase : next_phase < phases lane.run.script
    pub end : next_end ≡ length (lines_before (suc next_phase) lane.run.script)
    pub seat : seat_of lane.sys ≡ lane.run.lane
    pub stands : StandsFor lane.run (made_of lane.sys)

module _ {S : Type 0} (seat_of : S → ℕ) (made_of : S → List Made) (stops_of : S → ℕ) (stopped_of : S → Answer) (follows_of : S → S → Type 0) where
  -- A lane has run its next phase, which answered so.
  pub record RunsPhase (old new : Lane S) (answer : Option Answer) : Type 0 where
    pub script : new.run.script ≡ old.run.script
    pub lane : new.run.lane ≡ old.run.lane
    pub done : IfNone answer ((new.run.done ≡ suc old.run.done) × StandsFor new.run (made_of new.sys))
    pub cut : IfSome answer (λ stop. CutOff old.run (made_of new.sys) stop)
    pub no_stop : IfNone answer (stops_of new.sys ≡ stops_of old.sys)
    pub stop : IfSome answer (λ stop. (stops_of new.sys ≡ one_more (stops_of old.sys)) × (stop ≡ stopped_of new.sys))
    pub made : IsPrefix (made_of old.sys) (made_of new.sys)
    pub seat : seat_of new.sys ≡ seat_of old.sys
    pub follows : follows_of old.sys new.sys
    pub idle : HasNone old.run.script old.run.lane old.run.done → new.sys ≡ old.sys

-- ---- many side by side
module _ {T : Type 0} (runs : T → T → Option Answer → Type 0) where
  -- Each of them has run, and they answered so.
  abbrev pub EachRuns : List T → List T → List (Option Answer) → Type 0
  EachRuns [] [] [] = Unit {0}
  EachRuns (old ∷ olds) (new ∷ news) (answer ∷ answers) = runs old new answer × EachRuns olds news answers
  EachRuns _ _ _ = ⊥

  -- All have run: the answer is that of the first one in the list that gave one.
  pub record AllRun (old new : List T) (answer : Option Answer) : Type 0 where
    pub answers : List (Option Answer)
    pub each : EachRuns old new answers
    pub first : answer ≡ first_stop answers
