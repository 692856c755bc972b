-- The laws of judging the reports of scripts.
use Rattle.std.specs.Prelude.{◌≡◌, ℕ, List, length, ◌↔◌}
use Rattle.ix_model.specs.history.Events.{Event}
use Rattle.ix_script.specs.declared.line.Line.{Line}
use Rattle.ix_lanes.specs.histories.History.{IsHistory, phase_of}
use Rattle.ix_lanes.specs.histories.Lanes.{calls_of}
use Rattle.ix_replay.specs.report.Fixed.{LanesNamed}
use Rattle.ix_replay.specs.report.Report.{report_of}
use Rattle.ix_judging.specs.Asking.{IsLane}
use Rattle.ix_judging.specs.Judge.{Verdict, Yes}
use Rattle.ix_check.specs.Plans.{calls_as, found_in, most_calls}
use Rattle.ix_check.specs.Verdicts.{IsVerdict}

-- what the lane of a seat asks for is a lane's: its calls have the lane's seat, their phases never fall, and there are at most so many
abbrev pub LanesAreLanes : Type 0
LanesAreLanes = (s : List Line) (k : ℕ)
    → IsLane (λ (e : Event). e.seat) (λ (e : Event). phase_of s e.line) k 0 (most_calls s) (λ answers. calls_as (calls_of s k answers))

-- what is found by the walk is what is answered, and nothing else is
abbrev pub TextsAreJudged : Type 0
TextsAreJudged = (s : List Line) → LanesNamed s → (text : List ℕ) (verdict : Verdict) → IsVerdict s text verdict ↔ (verdict ≡ found_in s text)

-- the report of each history is found good
abbrev pub PrintedIsGood : Type 0
PrintedIsGood = (s : List Line) → LanesNamed s → (events : List Event) → IsHistory s events → found_in s (report_of s events) ≡ Yes (length events)
