-- Where `run` is the one command.
use Rattle.std.{proofs.Common.{◌≡◌, ℕ, ◌<◌, true, false, List, length, Option, Some, None, is_none, refl, subst}, specs.Prelude.IfSome}
use Rattle.ix_model.specs.history.Events.{Event}
use Rattle.ix_script.specs.declared.line.Line.{Line}
use Rattle.ix_lanes.specs.histories.History.{IsHistory}
use Rattle.ix_host.specs.{declared.{arguments.command.Command.Command, status.Status.Status}, command.Command.{command_of, lanes_command_of, only_run}}
use Rattle.ix_host.specs.run.Inputs.{IsTooLong, input_max, input_of, reads_source, script_for, script_in, script_max}
use Rattle.ix_host.specs.run.Run.{FitsCommand, ExistsHistory, ReadsOut}
use Rattle.ix_host.specs.declared.arguments.command.Command.TheVariants as command
use Rattle.ix_host.specs.declared.status.Status.TheVariants as status

-- what holds of no command and of `run` holds of the command
pub lanes_only : (P : Option Command → Type 0) → P None → P (Some command.Run) → (words : List (List ℕ)) → P (lanes_command_of words)
unfolding lanes_command_of
lanes_only P none run words = go (command_of words)
  where
    go : (o : Option Command) → P (only_run o)
    go None = none
    go (Some command.Run) = run
    go (Some command.Print) = none
    go (Some (command.Gen n)) = none
    go (Some command.Check) = none
    go (Some command.Flow) = none
    go (Some command.Save) = none
    go (Some command.Load) = none
    go (Some (command.Twin l)) = none

-- the input is what the source has left
pub lanes_input : (words : List (List ℕ)) (left : Option (List ℕ)) → input_of (lanes_command_of words) left ≡ left
lanes_input words left = lanes_only (λ o. input_of o left ≡ left) refl refl words

-- it has no more bytes than a script
pub lanes_max : (words : List (List ℕ)) → input_max (lanes_command_of words) ≡ script_max
lanes_max words = lanes_only (λ o. input_max o ≡ script_max) refl refl words

-- where it is too long, so is the script
pub lanes_long : (words : List (List ℕ)) (left : Option (List ℕ)) → IfSome left (λ bytes. IsTooLong (lanes_command_of words) bytes) → IfSome left (λ bytes. script_max < length bytes)
lanes_long words None h = tt
lanes_long words (Some bytes) h = lanes_only (λ o. IsTooLong o bytes → script_max < length bytes) (λ k. k) (λ k. k) words h

-- all of it is the script
pub lanes_script : (words : List (List ℕ)) (bytes : List ℕ) → script_for (lanes_command_of words) bytes ≡ script_in bytes
lanes_script words bytes = lanes_only (λ o. script_for o bytes ≡ script_in bytes) refl refl words

pub lanes_written : (words : List (List ℕ)) (first taken : Option (List ℕ)) (P : List ℕ → List ℕ → List Event → Type 0)
    → IfSome first (λ bytes. IfSome taken (λ t. ExistsHistory (IsHistory (script_for (lanes_command_of words) bytes)) (λ history. P bytes t history)))
    → IfSome first (λ bytes. IfSome taken (λ t. ExistsHistory (IsHistory (script_in bytes)) (λ history. P bytes t history)))
lanes_written words None taken P h = tt
lanes_written words (Some bytes) None P h = tt
lanes_written words (Some bytes) (Some t) P h = subst (λ (s : List Line). ExistsHistory (IsHistory s) (λ history. P bytes t history)) (lanes_script words bytes) h

-- it is read where there is a command
pub none_reads : (asked : Option Command) → is_none asked ≡ true → reads_source asked ≡ false
none_reads None h = refl
none_reads (Some c) h = cc

none_read_out : (end : Status) (first left : Option (List ℕ)) → FitsCommand end None → IfSome first (λ bytes. ReadsOut script_max end bytes left)
none_read_out end None left h = tt
none_read_out status.Done (Some bytes) left h = cc
none_read_out status.Usage (Some bytes) left h = tt
none_read_out (status.Script line rule) (Some bytes) left h = cc
none_read_out status.ReadFault (Some bytes) left h = tt
none_read_out status.WriteFault (Some bytes) left h = tt
none_read_out status.NoMemory (Some bytes) left h = tt
none_read_out (status.Image at rule) (Some bytes) left h = cc

-- and nothing is to be said of it where there is none
pub lanes_read_out : (words : List (List ℕ)) (end : Status) (first left : Option (List ℕ)) → FitsCommand end (lanes_command_of words)
    → (reads_source (lanes_command_of words) ≡ true → IfSome first (λ bytes. ReadsOut (input_max (lanes_command_of words)) end bytes left))
    → IfSome first (λ bytes. ReadsOut script_max end bytes left)
lanes_read_out words end first left =
    lanes_only (λ o. FitsCommand end o → (reads_source o ≡ true → IfSome first (λ bytes. ReadsOut (input_max o) end bytes left)) → IfSome first (λ bytes. ReadsOut script_max end bytes left))
    (λ f h. none_read_out end first left f) (λ f h. h refl) words

-- where a run is done, it is that command
pub lanes_run : (words : List (List ℕ)) → FitsCommand status.Done (lanes_command_of words) → lanes_command_of words ≡ Some command.Run
lanes_run words = lanes_only (λ o. FitsCommand status.Done o → o ≡ Some command.Run) (λ h. cc) (λ h. refl) words
