-- What `load` lists, where it is done, and what fault it tells.
use Rattle.std.{proofs.Common.{◌≡◌, ℕ, List, ◌++◌, Option, Some, None, Ok, ap, ◌∙◌, subst}, specs.Prelude.IfSome}
use Rattle.ix_image.specs.{Laws.{IsImage, WrittenIsRead}, Reading.{image_fault, tree_in}}
use Rattle.ix_lanes.specs.histories.Serial.{serial}
use Rattle.ix_host.specs.{Loaded.TakesList, command.Command.usage_line, declared.{arguments.command.Command.Command, status.Status.Status}, run.Tasks.IsLoaded}
use Rattle.ix_host.specs.{run.Inputs.{input_of, script_for}, run.Outcome.{outcome_in, outcome_of, text_of}}
use Rattle.ix_host.specs.run.Run.{FitsCommand, IsAnswer, WritesFor, called_for, unless_listed}
use Rattle.ix_host.specs.declared.arguments.command.Command.TheVariants as command
use Rattle.ix_host.specs.declared.status.Status.TheVariants as status
use Rattle.ix_host.specs.declared.task.Task.TheVariants as task
use Rattle.ix_host.proofs.comes_to.{Done.{called_by, went_out}, Outcomes.list_told}

-- What went out is the list of the tree.
pub takes_list : WrittenIsRead → (asked : Option Command) (left : Option (List ℕ)) (end : Status) (taken after : Option (List ℕ))
    → end ≡ status.Done → asked ≡ Some command.Load → IfSome left (λ bytes. IsImage bytes)
    → IfSome (input_of asked left) (λ bytes. IfSome taken (λ t. WritesFor end (text_of (outcome_of usage_line asked bytes (serial (script_for asked bytes)))) t after))
    → IfSome left (λ bytes. IfSome taken (λ t. TakesList bytes t after))
takes_list read asked left end taken after is load image wrote =
    go left taken image (went_out command.Load asked left end taken after is load wrote)
  where
    go : (o k : Option (List ℕ)) → IfSome o (λ bytes. IsImage bytes)
        → IfSome o (λ bytes. IfSome k (λ t. after ≡ Some (t ++ text_of (outcome_in command.Load bytes (serial (script_for (Some command.Load) bytes))))))
        → IfSome o (λ bytes. IfSome k (λ t. TakesList bytes t after))
    go None k image went = tt
    go (Some bytes) None image went = tt
    go (Some bytes) (Some t) image went =
        let is : tree_in bytes ≡ Ok image.tree = ap tree_in image.written ∙ read image.tree image.sound in
        record {
          tree = image.tree;
          sound = image.sound;
          image = image.written;
          went_out = went ∙ ap (λ text. Some (t ++ text)) (list_told bytes image.tree (serial (script_for (Some command.Load) bytes)) is);
        }

-- Where an image was listed, the bytes are one.
pub loaded_image : (left : Option (List ℕ)) (end : Status) → end ≡ status.Done → IfSome left (λ bytes. IsLoaded bytes (task.Ended end)) → IfSome left (λ bytes. IsImage bytes)
loaded_image left end is loaded = subst (λ (e : Status). IfSome left (λ bytes. IsLoaded bytes (task.Ended e))) is loaded

-- No lanes are run with an image.
pub never_run : (left : Option (List ℕ)) → IfSome left (λ bytes. ⊥) → IfSome left (λ bytes. IsImage bytes)
never_run None h = tt
never_run (Some bytes) h = absurd h

-- The fault that is told is that of the bytes.
pub fault_is : (asked : Option Command) (left : Option (List ℕ)) (end : Status) (at rule : ℕ) → end ≡ status.Image at rule → FitsCommand end asked
    → (IsAnswer end → IfSome (input_of asked left) (λ bytes. end ≡ called_for asked bytes)) → IfSome left (λ bytes. image_fault bytes ≡ Some (at, rule))
unfolding called_for
fault_is asked left end at rule is fits answer =
    let load : asked ≡ Some command.Load = subst (λ (e : Status). FitsCommand e asked) is fits in
    go left (called_by command.Load (status.Image at rule) asked left end tt is load answer)
  where
    same : (o : Option (ℕ × ℕ)) → status.Image at rule ≡ unless_listed o → o ≡ Some (at, rule)
    same None h = cc
    same (Some fault) h =
        let place : fault.0 ≡ at = cc in
        let number : fault.1 ≡ rule = cc in
        λ i. Some (place i, number i)

    go : (o : Option (List ℕ)) → IfSome o (λ bytes. status.Image at rule ≡ unless_listed (image_fault bytes)) → IfSome o (λ bytes. image_fault bytes ≡ Some (at, rule))
    go None h = tt
    go (Some bytes) h = same (image_fault bytes) h
