-- The laws of reports, and of made sessions.
use Rattle.std.specs.Prelude.{◌≡◌, ℕ, ◌≤◌, true, List, ◌++◌, length, Some, None}
use Rattle.ix_model.specs.history.Events.{Event}
use Rattle.ix_iso.specs.Forms.{KeepsForm}
use Rattle.ix_script.specs.declared.line.Line.{Line}
use Rattle.ix_script.specs.lines.Before.{form_told}
use Rattle.ix_script.specs.lines.Faults.{fault_of}
use Rattle.ix_script.specs.scripts.Scripts.{config_of, script_of}
use Rattle.ix_lanes.specs.histories.History.{IsHistory}
use Rattle.ix_lanes.specs.histories.Lanes.{Lanes}
use Rattle.ix_replay.specs.report.Report.{report_of}
use Rattle.ix_judging.specs.Bytes.{split}
use Rattle.ix_judging.specs.Judge.{Yes}
use Rattle.ix_check.specs.Verdicts.{verdict_line}
use Rattle.ix_gen.specs.Generated.{generated}
use Rattle.ix_host.specs.Noninterference.{HidesLines}
use Rattle.ix_host.specs.Policies.{policy_refusal}
use Rattle.ix_host.specs.declared.arguments.command.Command.TheVariants as command
use Rattle.ix_host.specs.run.Inputs.{check_max}
use Rattle.ix_host.specs.run.Outcome as outcome
use Rattle.ix_host.specs.run.Outcome.{outcome_in}

-- the report of each history of each script hides what is high
abbrev pub LowLinesAreEqual : Type 0
LowLinesAreEqual = (s : List Line) (history : List Event) → HidesLines s history

-- in each history that holds the lanes' calls of a script that was read, the form of the script has a text for each label that
-- its report tells
abbrev pub LabelsInForm : Type 0
LabelsInForm = (bytes : List ℕ) (s : List Line) (events : List Event) → script_of bytes ≡ Some s → Lanes s events → KeepsForm (form_told s) (config_of s) events

-- A script that is read, whose last line ends by a line feed, with the report of one of its histories behind it, is told as a report of so many entries.
abbrev pub PrintedIsYes : Type 0
PrintedIsYes = (bytes : List ℕ) (s : List Line) (history : List Event) → script_of bytes ≡ Some s → policy_refusal s ≡ None → (split bytes).whole ≡ true → IsHistory s history
    → length (bytes ++ report_of s history) ≤ check_max → (other : List Event)
    → outcome_in command.Check (bytes ++ report_of s history) other ≡ outcome.Whole (verdict_line (Yes (length history)))

-- each text of the generator, of 1 to 100,000 commands, has no fault
abbrev pub Readable : Type 0
Readable = (n : ℕ) → 1 ≤ n → n ≤ 100000 → fault_of (generated n) ≡ None
