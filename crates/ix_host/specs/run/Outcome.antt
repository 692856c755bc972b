-- What is asked for comes to, with an input and a history of the script that the input is: a text, a refusal, an image's fault, or the usage line.
use Rattle.std.specs.Prelude.{ℕ, nat_lt, List, [], length, Option, Some, None, Result, Ok, Err, if◌then◌else◌}
use Rattle.std.specs.Option.{option_or}
use Rattle.ix_model.specs.history.Events.{Event}
use Rattle.ix_script.specs.scripts.Canonical.{canonical}
use Rattle.ix_script.specs.lines.Faults.{fault_of}
use Rattle.ix_script.specs.declared.line.Line.{Line}
use Rattle.ix_replay.specs.report.Report.{report_of}
use Rattle.ix_replay.specs.Summary.{summary_line}
use Rattle.ix_check.specs.Plans.{found_in}
use Rattle.ix_check.specs.Verdicts.{verdict_line}
use Rattle.ix_host.specs.Seconds.{second_in, second_refusal}
use Rattle.ix_twin.specs.Lines.{twin_text}
use Rattle.ix_image.specs.Trees.{TreeOf}
use Rattle.ix_image.specs.Image.{longest}
use Rattle.ix_image.specs.Lines.{list_of}
use Rattle.ix_image.specs.Reading.{image_fault, tree_in}
use Rattle.ix_host.specs.declared.arguments.command.Command.{Command}
use Rattle.ix_host.specs.declared.arguments.command.Command.TheVariants as command
use Rattle.ix_host.specs.declared.status.Status.{Status}
use Rattle.ix_host.specs.declared.status.Status.TheVariants as status
use Rattle.ix_host.specs.Policies.{policy_refusal}
use Rattle.ix_host.specs.Traces.{traces}
use Rattle.ix_host.specs.Saved.{image_left}
use Rattle.ix_host.specs.report.Rules.{image_line, refusal_line}
use Rattle.ix_host.specs.run.Inputs.{beside_bytes, check_max, reads_image, script_bytes, script_in, twin_max}

-- a whole text, the line and the rule of a script's refusal, the place and the rule of an image's fault, or the usage line
pub data Outcome : Type 0 where
  Whole : List ℕ → Outcome
  Refused : ℕ → ℕ → Outcome
  Faulty : ℕ → ℕ → Outcome
  Usage : List ℕ → Outcome

-- ---- the outcome
-- the line and the rule by which a script without a fault is refused, beside which this is asked for: by its policy, and for `twin` by what the second
-- script is refused for, once the first isn't
unfoldable pub script_refusal : Command → List Line → List ℕ → Option (ℕ × ℕ)
script_refusal command.Run s beside = policy_refusal s
script_refusal command.Print s beside = policy_refusal s
script_refusal (command.Gen n) s beside = None
script_refusal command.Check s beside = policy_refusal s
script_refusal command.Flow s beside = policy_refusal s
script_refusal command.Save s beside = policy_refusal s
script_refusal command.Load s beside = None
script_refusal (command.Twin l) s beside = option_or (policy_refusal s) (second_refusal beside)

-- the line and the rule by which the bytes of a script are refused, beside which this is asked for: their fault stands before all else
abbrev pub refused_by : Command → List ℕ → List ℕ → Option (ℕ × ℕ)
refused_by c bytes beside = option_or (fault_of bytes) (script_refusal c (script_in bytes) beside)

-- The line and the rule by which an input is refused. What `gen` reads never is, nor what `load` reads, in which no script stands; that of `check` and of
-- `twin` is by the first rule, at the first line, where all of it is too long.
unfoldable pub refusal_of : Command → List ℕ → Option (ℕ × ℕ)
refusal_of command.Run bytes = refused_by command.Run bytes []
refusal_of command.Print bytes = refused_by command.Print bytes []
refusal_of (command.Gen n) bytes = None
refusal_of command.Check bytes = if nat_lt check_max (length bytes) then Some (1, 1) else refused_by command.Check (script_bytes command.Check bytes) (beside_bytes command.Check bytes)
refusal_of command.Flow bytes = refused_by command.Flow bytes []
refusal_of command.Save bytes = refused_by command.Save bytes []
refusal_of command.Load bytes = None
refusal_of (command.Twin l) bytes =
    if nat_lt twin_max (length bytes) then Some (1, 1) else refused_by (command.Twin l) (script_bytes (command.Twin l) bytes) (beside_bytes (command.Twin l) bytes)

-- the list of the tree that was read, where one was
abbrev pub listed : {E : Type 0} → Result TreeOf E → List ℕ
listed (Ok tree) = list_of tree
listed (Err fault) = []

-- The text that a command gives of a script, of what else is asked for, and of a history of it: the history's report, the canonical text, the history's
-- summary, what is found of the text that claims to be its report, where the bytes came from that the script's serial history reads, the image of the
-- tree that is left after it, the list of the tree in an image, or what is written of it and the second script, compared at a label.
unfoldable pub text_for : Command → List Line → List ℕ → List Event → List ℕ
text_for command.Run s beside history = report_of s history
text_for command.Print s beside history = canonical s
text_for (command.Gen n) s beside history = summary_line n s history
text_for command.Check s beside history = verdict_line (found_in s beside)
text_for command.Flow s beside history = traces s
text_for command.Save s beside history = image_left s
text_for command.Load s beside history = listed (tree_in beside)
text_for (command.Twin l) s beside history = twin_text l s (second_in beside)

-- a refusal, or a whole text
abbrev pub unless_refused : Option (ℕ × ℕ) → List ℕ → Outcome
unless_refused None text = Whole text
unless_refused (Some refusal) text = Refused refusal.0 refusal.1

-- what a command comes to with a script, and what else is asked for
unfoldable pub outcome_for : Command → List Line → List ℕ → List Event → Outcome
outcome_for c s beside history = unless_refused (script_refusal c s beside) (text_for c s beside history)

-- an image's fault, or a whole text
abbrev pub unless_faulty : Option (ℕ × ℕ) → List ℕ → Outcome
unless_faulty None text = Whole text
unless_faulty (Some fault) text = Faulty fault.0 fault.1

-- what a command comes to with an input
unfoldable pub outcome_in : Command → List ℕ → List Event → Outcome
outcome_in command.Load bytes history = unless_faulty (image_fault bytes) (text_for command.Load [] bytes history)
outcome_in c bytes history = unless_refused (refusal_of c bytes) (text_for c (script_in (script_bytes c bytes)) (beside_bytes c bytes) history)

-- what a command comes to with an input that is too long
abbrev pub too_long_for : Command → Outcome
too_long_for c = if reads_image c then Faulty longest 9 else Refused 1 1

-- what is asked for comes to, and to the usage line where nothing is
abbrev pub outcome_of : List ℕ → Option Command → List ℕ → List Event → Outcome
outcome_of usage None bytes history = Usage usage
outcome_of usage (Some c) bytes history = outcome_in c bytes history

-- the text of an outcome
abbrev pub text_of : Outcome → List ℕ
text_of (Whole text) = text
text_of (Refused line rule) = refusal_line line rule
text_of (Faulty at rule) = image_line at rule
text_of (Usage line) = line

-- the status of an outcome
abbrev pub status_of : Outcome → Status
status_of (Whole text) = status.Done
status_of (Refused line rule) = status.Script line rule
status_of (Faulty at rule) = status.Image at rule
status_of (Usage line) = status.Usage
