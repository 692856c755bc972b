-- What was asked for is done up to the run of lanes.
use Rattle.std.proofs.Common.{◌≡◌, ℕ, ◌+◌, ◌==◌, ◌<◌, ◌≤◌, Bool, true, false, List, [], length, drop, Option, Some, None, if◌then◌else◌, refl, sym, ap, ◌∙◌}
use Rattle.std.proofs.Common.{subst, arith, append-nil, replicate, unwrap_or}
use Rattle.std.{specs.Prelude.IfSome, proofs.lemmas.{Bool.lt-ltb, List.{drop_all, length-replicate}}}
use Rattle.ix_image.specs.{Image.longest, Laws.IsImage}
use Rattle.ix_model.specs.history.Events.{Event}
use Rattle.ix_script.specs.declared.line.Line.{Line}
use Rattle.ix_host.specs.{declared.{arguments.command.Command.Command, status.Status.Status, task.Task.Task}, run.Run.{Ends, IsEndOf, ReadsOut, WritesFor}}
use Rattle.ix_host.specs.run.Inputs.{input_max, input_of, reads_image, reads_source, script_bytes, script_in}
use Rattle.ix_host.specs.run.Outcome.{Outcome, outcome_in, outcome_of, status_of, text_of, too_long_for}
use Rattle.ix_host.specs.run.Tasks.{IsLoaded, LeadsTo, OnRun, Prepares, TaskReadsOut}
use Rattle.ix_host.specs.declared.status.Status.TheVariants as status
use Rattle.ix_host.specs.declared.task.Task.TheVariants as task
use Rattle.ix_host.specs.run.Outcome as outcome
use Rattle.ix_host.proofs.comes_to.Outcomes.{outcome_too_long}

-- a run of lanes is no end
pub run_is_no_end : (t : Task) (end : Status) → OnRun t (t ≡ task.Ended end → ⊥)
run_is_no_end (task.Ended e) end = tt
run_is_no_end (task.Run told script policy) end = λ is. cc

-- ---- ends
-- an end with an outcome is one with an equal outcome
pub ends_as : {end : Status} {taken after : Option (List ℕ)} {done : Bool} {before now : ℕ} {o p : Outcome} → o ≡ p → Ends o end taken after done before now → Ends p end taken after done before now
ends_as {end} {taken} {after} {done} {before} {now} is e = subst (λ x. Ends x end taken after done before now) is e

-- nothing was written where memory ran out
pub unwritten : (taken : Option (List ℕ)) (text : List ℕ) → IfSome taken (λ t. WritesFor status.NoMemory text t taken)
unwritten None text = tt
unwritten (Some t) text = record { gone = []; left = text; whole = refl; front = ap Some (sym (append-nil t)) }

pub ends_without_memory : (o : Outcome) (taken : Option (List ℕ)) (done : Bool) (now : ℕ) → Ends o status.NoMemory taken taken done now now
ends_without_memory o taken done now = record { fits = tt; text = unwritten taken (text_of o); finished = λ a. absurd a; kept = λ a. absurd a; fault = λ e. cc }

-- ---- tasks
-- what leads to outcomes leads to equal ones
pub leads_as : (of to : List Event → Outcome) (s t : List Line) (job : Task) (taken after : Option (List ℕ)) (done : Bool) (before now : ℕ) → ((history : List Event) → of history ≡ to history) → s ≡ t
    → LeadsTo of s job taken after done before now → LeadsTo to t job taken after done before now
leads_as of to s t (task.Ended end) taken after done before now same is h = λ history. ends_as (same history) (h history)
leads_as of to s t (task.Run told script policy) taken after done before now same is h = (h.0 ∙ is, h.1, h.2, λ history. sym (same history) ∙ h.3 history)

-- no read failed
pub ends_somewhere : {o : Outcome} {end : Status} {taken after : Option (List ℕ)} {done : Bool} {before now : ℕ} → Ends o end taken after done before now
    → task.Ended end ≡ task.Ended status.ReadFault → ⊥
ends_somewhere {o} {end} {taken} {after} {done} {before} {now} e is =
    let fault : end ≡ status.ReadFault = cc in
    (subst (λ (x : Status). Ends o x taken after done before now) fault e).fits

pub leads_somewhere : (of : List Event → Outcome) (s : List Line) (job : Task) (taken after : Option (List ℕ)) (done : Bool) (before now : ℕ)
    → LeadsTo of s job taken after done before now → job ≡ task.Ended status.ReadFault → ⊥
leads_somewhere of s (task.Ended end) taken after done before now h is = ends_somewhere (h []) is
leads_somewhere of s (task.Run told script policy) taken after done before now h is = cc

-- ---- the source
-- it was read to its end
pub whole_read_out : (most : ℕ) (job : Task) (first left : Option (List ℕ)) (read : List ℕ) → IfSome first (λ bytes. (read ≡ bytes) × (left ≡ Some []) × (length bytes ≤ most))
    → IfSome first (λ bytes. TaskReadsOut most job bytes left)
whole_read_out most job None left read w = tt
whole_read_out most (task.Run told script policy) (Some bytes) left read w = w.1
whole_read_out most (task.Ended status.Done) (Some bytes) left read w = w.1
whole_read_out most (task.Ended status.Usage) (Some bytes) left read w = tt
whole_read_out most (task.Ended (status.Script line rule)) (Some bytes) left read w = w.1 ∙ ap Some (sym (drop_all (most + 1) bytes (omega (arith, w.2))))
whole_read_out most (task.Ended (status.Image at rule)) (Some bytes) left read w = by_rule (rule == 9)
  where
    by_rule : (b : Bool) → left ≡ Some (if b then drop (most + 1) bytes else [])
    by_rule true = w.1 ∙ ap Some (sym (drop_all (most + 1) bytes (omega (arith, w.2))))
    by_rule false = w.1
whole_read_out most (task.Ended status.ReadFault) (Some bytes) left read w = tt
whole_read_out most (task.Ended status.WriteFault) (Some bytes) left read w = tt
whole_read_out most (task.Ended status.NoMemory) (Some bytes) left read w = tt

-- or to one byte more than an input may have, as the rule of its length says for a script, and for an image
pub long_read_out : (most : ℕ) (is_image : Bool) (end : Status) (first left : Option (List ℕ)) → IsEndOf (if is_image then outcome.Faulty longest 9 else outcome.Refused 1 1) end
    → IfSome first (λ bytes. (most < length bytes) × (left ≡ Some (drop (most + 1) bytes))) → IfSome first (λ bytes. ReadsOut most end bytes left)
long_read_out most is_image end None left is w = tt
long_read_out most true status.Done (Some bytes) left is w = cc
long_read_out most false status.Done (Some bytes) left is w = cc
long_read_out most is_image status.Usage (Some bytes) left is w = tt
long_read_out most is_image (status.Script line rule) (Some bytes) left is w = w.1
long_read_out most true (status.Image at rule) (Some bytes) left is w =
    let nine : rule ≡ 9 = cc in
    w.1 ∙ ap (λ (n : ℕ). Some (if n == 9 then drop (most + 1) bytes else [])) (sym nine)
long_read_out most false (status.Image at rule) (Some bytes) left is w = cc
long_read_out most is_image status.ReadFault (Some bytes) left is w = tt
long_read_out most is_image status.WriteFault (Some bytes) left is w = tt
long_read_out most is_image status.NoMemory (Some bytes) left is w = tt

-- ---- an image
-- it wasn't listed where the outcome is another
pub not_loaded : (o : Outcome) (end : Status) (bytes : List ℕ) → IsEndOf o end → (status.Done ≡ status_of o → ⊥) → IsLoaded bytes (task.Ended end)
not_loaded o status.Done bytes is other = absurd (other is)
not_loaded o status.Usage bytes is other = tt
not_loaded o (status.Script line rule) bytes is other = tt
not_loaded o (status.Image at rule) bytes is other = tt
not_loaded o status.ReadFault bytes is other = tt
not_loaded o status.WriteFault bytes is other = tt
not_loaded o status.NoMemory bytes is other = tt

-- nor is an input that is too long
pub long_not_loaded : (c : Command) (end : Status) (bytes : List ℕ) → IsEndOf (too_long_for c) end → IsLoaded bytes (task.Ended end)
long_not_loaded c end bytes is = not_loaded (too_long_for c) end bytes is (by_kind (reads_image c))
  where
    by_kind : (b : Bool) → status.Done ≡ status_of (if b then outcome.Faulty longest 9 else outcome.Refused 1 1) → ⊥
    by_kind true h = cc
    by_kind false h = cc

-- where it was, the bytes are an image
pub loaded_as : (end : Status) (bytes : List ℕ) → (end ≡ status.Done → IsImage bytes) → IsLoaded bytes (task.Ended end)
loaded_as status.Done bytes h = h refl
loaded_as status.Usage bytes h = tt
loaded_as (status.Script line rule) bytes h = tt
loaded_as (status.Image at rule) bytes h = tt
loaded_as status.ReadFault bytes h = tt
loaded_as status.WriteFault bytes h = tt
loaded_as status.NoMemory bytes h = tt

-- ---- what is asked for
-- what is told, or else this
told_or : (o : Option (List ℕ)) (d : List ℕ) → IfSome o (λ input. unwrap_or o d ≡ input)
told_or None d = tt
told_or (Some b) d = refl

-- some list that is longer than this
longer : (n : ℕ) → (l : List ℕ) × (n < length l)
longer n = (replicate (n + 1) 0, omega (arith, length-replicate {A = ℕ} (n + 1) 0))

long_or : (n : ℕ) (o : Option (List ℕ)) (d : List ℕ) → n < length d → IfSome o (λ bytes. n < length bytes) → n < length (unwrap_or o d)
long_or n None d low h = low
long_or n (Some b) d low h = h

module _ (usage : List ℕ) (asked : Option Command) (left taken : Option (List ℕ)) where
  -- nothing was asked for
  pub usage_prepared : (end : Status) (after : Option (List ℕ)) (done : Bool) (before now : ℕ) → asked ≡ None → Ends (outcome.Usage usage) end taken after done before now
      → Prepares usage asked left (task.Ended end) taken after done before now
  usage_prepared end after done before now is e =
      subst (λ a. Prepares usage a left (task.Ended end) taken after done before now) (sym is) (record { bytes = unwrap_or left []; told = told_or left []; leads = λ history. e })

  -- memory ran out
  pub memory_prepared : (done : Bool) (now : ℕ) → Prepares usage asked left (task.Ended status.NoMemory) taken taken done now now
  memory_prepared done now =
      let b = unwrap_or (input_of asked left) [] in
      record { bytes = b; told = told_or (input_of asked left) []; leads = λ history. ends_without_memory (outcome_of usage asked b history) taken done now }

  -- the input was too long
  pub long_prepared : (c : Command) (end : Status) (after : Option (List ℕ)) (done : Bool) (before now : ℕ) → asked ≡ Some c → reads_source (Some c) ≡ true
      → IfSome (input_of (Some c) left) (λ bytes. input_max (Some c) < length bytes) → Ends (too_long_for c) end taken after done before now
      → Prepares usage asked left (task.Ended end) taken after done before now
  long_prepared c end after done before now is reads long e =
      let d = longer (input_max (Some c)) in
      let b = unwrap_or (input_of (Some c) left) d.0 in
      let over : input_max (Some c) < length b = long_or (input_max (Some c)) (input_of (Some c) left) d.0 d.1 long in
      subst (λ a. Prepares usage a left (task.Ended end) taken after done before now) (sym is)
      (record { bytes = b; told = told_or (input_of (Some c) left) d.0; leads = λ history. ends_as (outcome_too_long c b history reads (lt-ltb _ _ over)) e })

  -- the input was read whole
  pub whole_prepared : (c : Command) (job : Task) (after : Option (List ℕ)) (done : Bool) (before now : ℕ) (read : List ℕ) → asked ≡ Some c → IfSome (input_of (Some c) left) (λ bytes. read ≡ bytes)
      → LeadsTo (λ history. outcome_in c read history) (script_in (script_bytes c read)) job taken after done before now → Prepares usage asked left job taken after done before now
  whole_prepared c job after done before now read is told h =
      subst (λ a. Prepares usage a left job taken after done before now) (sym is) (record { bytes = read; told = told; leads = h })
