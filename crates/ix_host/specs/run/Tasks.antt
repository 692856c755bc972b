-- What is left to do of what was asked for, and what is told of a history.
use Rattle.std.specs.Prelude.{◌≡◌, ℕ, Bool, List, [], Option, Some, IfSome}
use Rattle.ix_model.specs.history.Events.{Event}
use Rattle.ix_image.specs.Laws.{IsImage}
use Rattle.ix_script.specs.declared.line.Line.{Line}
use Rattle.ix_lanes.specs.asking.Ruled.{rules_told}
use Rattle.ix_replay.specs.report.Fixed.{LanesNamed}
use Rattle.ix_replay.specs.report.Report.{report_of}
use Rattle.ix_replay.specs.Summary.{summary_line}
use Rattle.ix_host.specs.declared.arguments.command.Command.{Command}
use Rattle.ix_host.specs.declared.status.Status.TheVariants as status
use Rattle.ix_host.specs.declared.task.Task.{Task}
use Rattle.ix_host.specs.declared.task.Task.TheVariants as task
use Rattle.ix_host.specs.declared.task.Telling.{Telling}
use Rattle.ix_host.specs.declared.task.Telling.TheVariants as telling
use Rattle.ix_host.specs.run.Inputs.{input_of, script_for}
use Rattle.ix_host.specs.run.Outcome.{Outcome, outcome_of}
use Rattle.ix_host.specs.run.Outcome as outcome
use Rattle.ix_host.specs.run.Run.{Ends, ReadsOut}

-- what is told of a history of a script
abbrev pub text_told : Telling → List Line → List Event → List ℕ
text_told telling.Report s history = report_of s history
text_told (telling.Summary n) s history = summary_line n s history

-- The lanes of a script can be run: they have names. Each script that was read is such a one.
pub record IsRunnable (s : List Line) : Type 0 where
  pub named : LanesNamed s

-- this holds where lanes are to be run
abbrev pub OnRun : Task → Type 0 → Type 0
OnRun (task.Ended end) P = Unit {0}
OnRun (task.Run told script policy) P = P

-- How far the source was read: as the status says, or to its end where lanes are to be run.
abbrev pub TaskReadsOut : ℕ → Task → List ℕ → Option (List ℕ) → Type 0
TaskReadsOut most (task.Ended end) bytes after = ReadsOut most end bytes after
TaskReadsOut most (task.Run told script policy) bytes after = after ≡ Some []

-- With an image no lanes are run, and it was listed only where the bytes are one.
abbrev pub IsLoaded : List ℕ → Task → Type 0
IsLoaded bytes (task.Ended status.Done) = IsImage bytes
IsLoaded bytes (task.Ended _) = Unit {0}
IsLoaded bytes (task.Run told script policy) = ⊥

-- With each history of a script the outcome is this one: that of a run which came to its end, or the text that is told once the lanes of the script have run.
abbrev pub LeadsTo : (List Event → Outcome) → List Line → Task → Option (List ℕ) → Option (List ℕ) → Bool → ℕ → ℕ → Type 0
LeadsTo of s (task.Ended end) taken after done before now = (history : List Event) → Ends (of history) end taken after done before now
LeadsTo of s (task.Run told script policy) taken after done before now =
    (script ≡ s) × IsRunnable script × (policy ≡ rules_told script) × ((history : List Event) → of history ≡ outcome.Whole (text_told told script history))

-- What was asked for was done up to the run of lanes. The input is the one that is told, or some one where none is told.
pub record Prepares (usage : List ℕ) (asked : Option Command) (left : Option (List ℕ)) (task : Task) (taken after : Option (List ℕ)) (done : Bool) (before now : ℕ) : Type 0 where
  pub bytes : List ℕ
  pub told : IfSome (input_of asked left) (λ input. bytes ≡ input)
  pub leads : LeadsTo (λ history. outcome_of usage asked bytes history) (script_for asked bytes) task taken after done before now
