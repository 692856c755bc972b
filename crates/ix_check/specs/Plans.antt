-- The lanes of a script, its machine and its report, as the theory of judging has them.
use Rattle.std.specs.Prelude.{ℕ, ◌-◌, ◌*◌, List, [], ◌∷◌, ◌++◌, length}
use Rattle.std.specs.Fmt.{decimal}
use Rattle.ix_model.specs.world.Naming.{same_bytes}
use Rattle.ix_model.specs.world.World.{World}
use Rattle.ix_model.specs.opening.Opening.{opening_world}
use Rattle.ix_model.specs.history.Events.{Event}
use Rattle.ix_model.specs.history.Step.{step_of}
use Rattle.ix_script.specs.lines.Before.{form_told, lanes_of}
use Rattle.ix_script.specs.scripts.Scripts.{config_of}
use Rattle.ix_script.specs.declared.line.Line.{Line}
use Rattle.ix_asking.specs.Asking.{Answered}
use Rattle.ix_lanes.specs.histories.History.{phase_of}
use Rattle.ix_lanes.specs.histories.Lanes.{calls_of}
use Rattle.ix_asking.specs.Lines as lines
use Rattle.ix_lanes.specs.histories.Serial.{answered}
use Rattle.ix_report.specs.LineText.{head_line}
use Rattle.ix_replay.specs.report.Report.{closing_text, entry_text}
use Rattle.ix_judging.specs.Asking.{Script, opened, plan_of}
use Rattle.ix_judging.specs.Bytes.{judge_bytes, split}
use Rattle.ix_judging.specs.Judge.{Verdict}
use Rattle.ix_judging.specs.Lanes.{Calls, State}
use Rattle.ix_judging.specs.Names.{told_from}
use Rattle.ix_judging.specs.Plan.{Plan}

-- calls, as the theory has them
abbrev pub calls_as : lines.Calls → Calls Event
calls_as c = record { entries = c.entries; next = c.next }

-- a line makes at most nine calls
abbrev pub most_calls : List Line → ℕ
most_calls s = length s * 9

-- the place of an entry, with the space behind it, with which its line begins
abbrev pub mark : ℕ → List ℕ
mark place = decimal place ++ 32 ∷ []

-- The machine, with what the lanes ask for. An entry's phase is that of its line; the closing lines are those of the text that closes a report, once
-- all entries before that place were made.
abbrev pub judged_script : List Line → Script World Event Answered (List ℕ)
judged_script s = record {
  answer = λ w place e. answered (step_of w place e);
  after = λ w place e. (step_of w place e).world;
  seat = λ e. e.seat;
  phase = λ e. phase_of s e.line;
  asked = λ k answers. calls_as (calls_of s k answers);
  most = most_calls s;
  head = head_line (form_told s);
  line = λ w place e. entry_text (form_told s) (lanes_of s) place w e;
  closing = λ w place. (split (closing_text (form_told s) w (place - 1))).lines;
  told = λ place line. told_from 0 (mark place) (lanes_of s) line;
  same = same_bytes;
}

-- a lane's state is the list of the answers that it has had
abbrev pub judged_plan : List Line → Plan World Event Answered (List Answered) (List ℕ)
judged_plan s = plan_of (judged_script s)

-- where the lanes begin
abbrev pub begun : List Line → State World (List Answered)
begun s = opened (judged_script s) (length (lanes_of s)) (opening_world (config_of s))

-- what is found by a walk over a text, line by line
unfoldable pub found_in : List Line → List ℕ → Verdict
found_in s text = judge_bytes (judged_plan s) (begun s) text
