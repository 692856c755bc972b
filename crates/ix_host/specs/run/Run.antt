-- What a run of a program comes to, by its words and its input.
use Rattle.std.specs.Prelude.{◌≡◌, ℕ, ◌+◌, Bool, true, List, [], ◌++◌, ◌==◌, drop, Option, Some, None, is_some, is_none, if◌then◌else◌}
use Rattle.std.specs.Prelude.{IfSome}
use Rattle.ix_model.specs.history.Events.{Event}
use Rattle.ix_io.specs.Streams.{Rose}
use Rattle.ix_lanes.specs.histories.Serial.{serial}
use Rattle.ix_host.specs.command.Command.{command_of, lanes_command_of, lanes_usage_line, usage_line}
use Rattle.ix_image.specs.Reading.{image_fault}
use Rattle.ix_host.specs.run.Inputs.{reads_script, reads_source, script_for}
use Rattle.ix_host.specs.run.Outcome.{Outcome, outcome_of, refusal_of, status_of, text_of}
use Rattle.ix_host.specs.report.Rules.{image_line, refusal_line}
use Rattle.ix_host.specs.run.Whole.{WritesFront}
use Rattle.ix_host.specs.declared.arguments.command.Command.{Command}
use Rattle.ix_host.specs.declared.arguments.command.Command.TheVariants as command
use Rattle.ix_host.specs.declared.status.Status.{Status}
use Rattle.ix_host.specs.declared.status.Status.TheVariants as status

-- ---- what is called for
-- the text that the words and an input call for, with the serial history of the script
abbrev pub wanted : List (List ℕ) → List ℕ → List ℕ
wanted words bytes = text_of (outcome_of usage_line (command_of words) bytes (serial (script_for (command_of words) bytes)))

-- the text that the words of the program that runs the lanes side by side and an input call for, with a history of the script
abbrev pub wanted_with : List (List ℕ) → List ℕ → List Event → List ℕ
wanted_with words bytes history = text_of (outcome_of lanes_usage_line (lanes_command_of words) bytes history)

-- the status of a refusal, or of none
abbrev pub unless_done : Option (ℕ × ℕ) → Status
unless_done None = status.Done
unless_done (Some refusal) = status.Script refusal.0 refusal.1

-- the status of an image's fault, or of none
abbrev pub unless_listed : Option (ℕ × ℕ) → Status
unless_listed None = status.Done
unless_listed (Some fault) = status.Image fault.0 fault.1

-- the status that a command and an input call for, whatever the history
unfoldable pub called_for : Option Command → List ℕ → Status
called_for None bytes = status.Usage
called_for (Some command.Load) bytes = unless_listed (image_fault bytes)
called_for (Some c) bytes = unless_done (refusal_of c bytes)

-- ---- statuses
-- the number that a program ends with
abbrev pub code_of : Status → ℕ
code_of status.Done = 0
code_of status.Usage = 2
code_of (status.Script line rule) = 3
code_of status.ReadFault = 4
code_of status.WriteFault = 5
code_of status.NoMemory = 6
code_of (status.Image at rule) = 7

-- The run went through, and its answer was written.
abbrev pub IsAnswer : Status → Type 0
IsAnswer status.Done = Unit {0}
IsAnswer status.Usage = Unit {0}
IsAnswer (status.Script line rule) = Unit {0}
IsAnswer (status.Image at rule) = Unit {0}
IsAnswer status.ReadFault = ⊥
IsAnswer status.WriteFault = ⊥
IsAnswer status.NoMemory = ⊥

-- Whether the words are a command: they are none at Usage, one that reads a script from the source at a refusal, `load` at an image's fault, one that reads
-- the source at a fault of it, and may be either where a write failed or memory ran out.
abbrev pub FitsCommand : Status → Option Command → Type 0
FitsCommand status.Done asked = is_some asked ≡ true
FitsCommand status.Usage asked = is_none asked ≡ true
FitsCommand (status.Script line rule) asked = reads_script asked ≡ true
FitsCommand (status.Image at rule) asked = asked ≡ Some command.Load
FitsCommand status.ReadFault asked = reads_source asked ≡ true
FitsCommand status.WriteFault asked = Unit {0}
FitsCommand status.NoMemory asked = Unit {0}

-- ---- what is read and written
-- How far the source was read: to its end, or for a refusal to one byte more than the input may have, and so for an image's fault where that is its length.
abbrev pub ReadsOut : ℕ → Status → List ℕ → Option (List ℕ) → Type 0
ReadsOut most status.Done bytes after = after ≡ Some []
ReadsOut most (status.Script line rule) bytes after = after ≡ Some (drop (most + 1) bytes)
ReadsOut most (status.Image at rule) bytes after = after ≡ Some (if rule == 9 then drop (most + 1) bytes else [])
ReadsOut most _ bytes after = Unit {0}

-- What went out: the wanted text, none of it, or some front of it.
abbrev pub WritesFor : Status → List ℕ → List ℕ → Option (List ℕ) → Type 0
WritesFor status.Done text taken after = after ≡ Some (taken ++ text)
WritesFor status.Usage text taken after = after ≡ Some (taken ++ text)
WritesFor (status.Script line rule) text taken after = after ≡ Some (taken ++ text)
WritesFor (status.Image at rule) text taken after = after ≡ Some (taken ++ text)
WritesFor status.ReadFault text taken after = after ≡ Some taken
WritesFor status.WriteFault text taken after = WritesFront taken after text
WritesFor status.NoMemory text taken after = WritesFront taken after text

-- Usage, a refusal and an image's fault wrote their one line, whatever is known of the input.
abbrev pub WritesLine : List ℕ → Status → List ℕ → Option (List ℕ) → Type 0
WritesLine usage status.Usage taken after = after ≡ Some (taken ++ usage)
WritesLine usage (status.Script line rule) taken after = after ≡ Some (taken ++ refusal_line line rule)
WritesLine usage (status.Image at rule) taken after = after ≡ Some (taken ++ image_line at rule)
WritesLine usage _ taken after = Unit {0}

-- ---- ends
-- Where something came to an end with an outcome: the status is the outcome's, or memory ran out or a write failed.
abbrev pub IsEndOf : Outcome → Status → Type 0
IsEndOf o status.Done = status.Done ≡ status_of o
IsEndOf o status.Usage = status.Usage ≡ status_of o
IsEndOf o (status.Script line rule) = status.Script line rule ≡ status_of o
IsEndOf o (status.Image at rule) = status.Image at rule ≡ status_of o
IsEndOf o status.ReadFault = ⊥
IsEndOf o status.WriteFault = Unit {0}
IsEndOf o status.NoMemory = Unit {0}

-- It came to an end with this status: of the outcome's text this was taken, and the sink's count of faults went so far.
pub record Ends (o : Outcome) (end : Status) (taken after : Option (List ℕ)) (done : Bool) (before now : ℕ) : Type 0 where
  pub fits : IsEndOf o end
  pub text : IfSome taken (λ t. WritesFor end (text_of o) t after)
  pub finished : IsAnswer end → done ≡ true
  pub kept : IsAnswer end → now ≡ before
  pub fault : end ≡ status.WriteFault → Rose before now

-- This holds of one of these histories.
pub record ExistsHistory (Is Holds : List Event → Type 0) : Type 0 where
  pub history : List Event
  pub is : Is history
  pub holds : Holds history
