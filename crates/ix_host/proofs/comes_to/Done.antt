-- What went out where a command is done, by the text that it calls for.
use Rattle.std.{proofs.Common.{◌≡◌, ℕ, List, ◌++◌, Option, Some, None, sym, ◌∙◌, subst}, specs.Prelude.IfSome}
use Rattle.ix_lanes.specs.histories.Serial.{serial}
use Rattle.ix_host.specs.{command.Command.usage_line, declared.{arguments.command.Command.Command, status.Status.Status}}
use Rattle.ix_host.specs.run.{Inputs.{input_of, script_for}, Outcome.{outcome_in, outcome_of, status_of, text_of}, Run.{IsAnswer, WritesFor, called_for}}
use Rattle.ix_host.specs.declared.status.Status.TheVariants as status
use Rattle.ix_host.proofs.comes_to.Outcomes.{status_is}

-- the command and its input call for the answer
pub called_by : (c : Command) (s : Status) (asked : Option Command) (left : Option (List ℕ)) (end : Status) → IsAnswer s → end ≡ s → asked ≡ Some c
    → (IsAnswer end → IfSome (input_of asked left) (λ bytes. end ≡ called_for asked bytes)) → IfSome (input_of (Some c) left) (λ bytes. s ≡ called_for (Some c) bytes)
called_by c s asked left end one is asks answer =
    subst (λ (a : Option Command). IfSome (input_of a left) (λ bytes. s ≡ called_for a bytes)) asks
    (subst (λ (e : Status). IfSome (input_of asked left) (λ bytes. e ≡ called_for asked bytes)) is (answer (subst IsAnswer (sym is) one)))

-- all of its text went out
pub went_out : (c : Command) (asked : Option Command) (left : Option (List ℕ)) (end : Status) (taken after : Option (List ℕ)) → end ≡ status.Done → asked ≡ Some c
    → IfSome (input_of asked left) (λ bytes. IfSome taken (λ t. WritesFor end (text_of (outcome_of usage_line asked bytes (serial (script_for asked bytes)))) t after))
    → IfSome (input_of (Some c) left) (λ bytes. IfSome taken (λ t. after ≡ Some (t ++ text_of (outcome_in c bytes (serial (script_for (Some c) bytes))))))
went_out c asked left end taken after is asks wrote =
    subst (λ (a : Option Command). IfSome (input_of a left) (λ bytes. IfSome taken (λ t. WritesFor status.Done (text_of (outcome_of usage_line a bytes (serial (script_for a bytes)))) t after))) asks
    (subst (λ (e : Status). IfSome (input_of asked left)
    (λ bytes. IfSome taken (λ t. WritesFor e (text_of (outcome_of usage_line asked bytes (serial (script_for asked bytes)))) t after))) is wrote)

-- what is said of the input and of what a sink had and has, by the text of a command that is done
abbrev pub Tells : Command → (List ℕ → List ℕ → Option (List ℕ) → Type 0) → Type 0
Tells c P = (bytes t : List ℕ) (after : Option (List ℕ)) → status.Done ≡ status_of (outcome_in c bytes (serial (script_for (Some c) bytes)))
    → after ≡ Some (t ++ text_of (outcome_in c bytes (serial (script_for (Some c) bytes)))) → P bytes t after

-- and where it is what was asked for
abbrev pub Takes : Command → (List ℕ → List ℕ → Option (List ℕ) → Type 0) → Type 0
Takes c P = (asked : Option Command) (left : Option (List ℕ)) (end : Status) (taken after : Option (List ℕ)) → end ≡ status.Done → asked ≡ Some c
    → (IsAnswer end → IfSome (input_of asked left) (λ bytes. end ≡ called_for asked bytes))
    → IfSome (input_of asked left) (λ bytes. IfSome taken (λ t. WritesFor end (text_of (outcome_of usage_line asked bytes (serial (script_for asked bytes)))) t after))
    → IfSome (input_of (Some c) left) (λ bytes. IfSome taken (λ t. P bytes t after))

pub takes_done : (c : Command) (P : List ℕ → List ℕ → Option (List ℕ) → Type 0) → Tells c P → Takes c P
takes_done c P tells asked left end taken after is asks answer wrote =
    go (input_of (Some c) left) taken (called_by c status.Done asked left end tt is asks answer) (went_out c asked left end taken after is asks wrote)
  where
    go : (l k : Option (List ℕ)) → IfSome l (λ bytes. status.Done ≡ called_for (Some c) bytes)
        → IfSome l (λ bytes. IfSome k (λ t. after ≡ Some (t ++ text_of (outcome_in c bytes (serial (script_for (Some c) bytes))))))
        → IfSome l (λ bytes. IfSome k (λ t. P bytes t after))
    go None k called went = tt
    go (Some bytes) None called went = tt
    go (Some bytes) (Some t) called went = tells bytes t after (called ∙ sym (status_is usage_line (Some c) bytes (serial (script_for (Some c) bytes)))) went
