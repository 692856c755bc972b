-- What the top calls promise of a run that came to an end.
use Rattle.std.proofs.Common.{◌≡◌, ℕ, ◌<◌, Bool, true, List, [], ◌++◌, length, Option, Some, None, is_none, refl, sym, ap, ◌∙◌, subst, inl, inr, ◌⊎◌}
use Rattle.std.specs.Prelude.{IfSome}
use Rattle.ix_io.specs.Streams.{Rose}
use Rattle.ix_image.specs.Reading.{image_fault}
use Rattle.ix_iso.proofs.Noninterference.{noninterference}
use Rattle.ix_model.specs.history.Events.{Event}
use Rattle.ix_lanes.specs.histories.Serial.{serial}
use Rattle.ix_policy.specs.declared.rule.Rule.{Rule}
use Rattle.ix_script.specs.declared.line.Line.{Line}
use Rattle.ix_host.specs.{declared.{arguments.command.Command.Command, status.Status.Status, task.Telling.Telling}, run.Tasks.{Prepares, text_told}}
use Rattle.ix_host.specs.Noninterference.{TakesNoninterferentReport, world_opened}
use Rattle.ix_host.specs.run.Inputs.{IsTooLong, input_of, reads_source, script_for, script_in, script_max}
use Rattle.ix_host.specs.run.Outcome.{Outcome, outcome_in, outcome_of, refusal_of, status_of, text_for, text_of}
use Rattle.ix_host.specs.run.Run.{Ends, FitsCommand, ExistsHistory, IsAnswer, IsEndOf, ReadsOut, WritesFor, WritesLine, called_for}
use Rattle.ix_host.specs.declared.arguments.command.Command.TheVariants as command
use Rattle.ix_host.specs.declared.status.Status.TheVariants as status
use Rattle.ix_host.specs.declared.task.Task.TheVariants as task
use Rattle.ix_host.specs.run.Outcome as outcome
use Rattle.ix_host.proofs.{Noninterference.low_lines, comes_to.Preparing.{ends_as, unwritten}}
use Rattle.ix_host.proofs.comes_to.Outcomes.{done_text, fault_text, first_rule, made_done, never_usage, no_image, no_script, refusal_text, status_is}
use Rattle.ix_host.proofs.comes_to.Outcomes.{usage_called}

-- ---- an end with an outcome
-- the status of an answer is the outcome's
of_answer : (o : Outcome) (end : Status) → IsEndOf o end → IsAnswer end → end ≡ status_of o
of_answer o status.Done h a = h
of_answer o status.Usage h a = h
of_answer o (status.Script l r) h a = h
of_answer o (status.Image at r) h a = h
of_answer o status.ReadFault h a = absurd h
of_answer o status.WriteFault h a = absurd a
of_answer o status.NoMemory h a = absurd a

-- and where no write failed there is none else but that memory ran out
or_memory : (o : Outcome) (end : Status) → IsEndOf o end → (end ≡ status.WriteFault → ⊥) → (end ≡ status_of o) ⊎ (end ≡ status.NoMemory)
or_memory o status.Done h f = inl h
or_memory o status.Usage h f = inl h
or_memory o (status.Script l r) h f = inl h
or_memory o (status.Image at r) h f = inl h
or_memory o status.ReadFault h f = absurd h
or_memory o status.WriteFault h f = absurd (f refl)
or_memory o status.NoMemory h f = inr refl

-- ---- the command
-- the statuses of answers fit the command that was asked for
fits_asked : (asked : Option Command) (bytes : List ℕ) (end : Status) → (IsAnswer end → end ≡ called_for asked bytes) → (end ≡ status.ReadFault → reads_source asked ≡ true) → FitsCommand end asked
unfolding called_for
fits_asked None bytes status.Done h f = let no : status.Done ≡ status.Usage = h tt in cc
fits_asked (Some c) bytes status.Done h f = refl
fits_asked None bytes status.Usage h f = refl
fits_asked (Some c) bytes status.Usage h f = absurd (never_usage c bytes (h tt))
fits_asked None bytes (status.Script l r) h f = let no : status.Script l r ≡ status.Usage = h tt in cc
fits_asked (Some command.Run) bytes (status.Script l r) h f = refl
fits_asked (Some command.Print) bytes (status.Script l r) h f = refl
fits_asked (Some command.Check) bytes (status.Script l r) h f = refl
fits_asked (Some command.Flow) bytes (status.Script l r) h f = refl
fits_asked (Some command.Save) bytes (status.Script l r) h f = refl
fits_asked (Some command.Load) bytes (status.Script l r) h f = absurd (no_script (image_fault bytes) l r (h tt))
fits_asked (Some (command.Twin at)) bytes (status.Script l r) h f = refl
fits_asked (Some (command.Gen n)) bytes (status.Script l r) h f = let no : status.Script l r ≡ status.Done = h tt ∙ made_done n bytes in cc
fits_asked None bytes (status.Image at r) h f = let no : status.Image at r ≡ status.Usage = h tt in cc
fits_asked (Some command.Load) bytes (status.Image at r) h f = refl
fits_asked (Some (command.Gen n)) bytes (status.Image at r) h f = let no : status.Image at r ≡ status.Done = h tt ∙ made_done n bytes in cc
fits_asked (Some command.Run) bytes (status.Image at r) h f = absurd (no_image (refusal_of command.Run bytes) at r (h tt))
fits_asked (Some command.Print) bytes (status.Image at r) h f = absurd (no_image (refusal_of command.Print bytes) at r (h tt))
fits_asked (Some command.Check) bytes (status.Image at r) h f = absurd (no_image (refusal_of command.Check bytes) at r (h tt))
fits_asked (Some command.Flow) bytes (status.Image at r) h f = absurd (no_image (refusal_of command.Flow bytes) at r (h tt))
fits_asked (Some command.Save) bytes (status.Image at r) h f = absurd (no_image (refusal_of command.Save bytes) at r (h tt))
fits_asked (Some (command.Twin l)) bytes (status.Image at r) h f = absurd (no_image (refusal_of (command.Twin l) bytes) at r (h tt))
fits_asked asked bytes status.ReadFault h f = f refl
fits_asked asked bytes status.WriteFault h f = tt
fits_asked asked bytes status.NoMemory h f = tt

-- ---- the input
-- what holds of the input holds of the one that is told
pub of_input : (o : Option (List ℕ)) (b : List ℕ) (P : List ℕ → Type 0) → IfSome o (λ input. b ≡ input) → P b → IfSome o P
of_input None b P told h = tt
of_input (Some input) b P told h = subst P told h

-- one that is refused by the first rule is too long
long_input : (asked : Option Command) (left : Option (List ℕ)) (b : List ℕ) → IfSome (input_of asked left) (λ input. b ≡ input)
    → status.Script 1 1 ≡ called_for asked b → IfSome left (λ bytes. IsTooLong asked bytes)
unfolding called_for
long_input None left b told h = cc
long_input (Some command.Run) left b told h = of_input left b (λ bytes. script_max < length bytes) told (first_rule command.Run b h)
long_input (Some command.Print) left b told h = of_input left b (λ bytes. script_max < length bytes) told (first_rule command.Print b h)
long_input (Some command.Check) left b told h = of_input left b (λ bytes. IsTooLong (Some command.Check) bytes) told (first_rule command.Check b h)
long_input (Some command.Flow) left b told h = of_input left b (λ bytes. script_max < length bytes) told (first_rule command.Flow b h)
long_input (Some command.Save) left b told h = of_input left b (λ bytes. script_max < length bytes) told (first_rule command.Save b h)
long_input (Some command.Load) left b told h = absurd (no_script (image_fault b) 1 1 h)
long_input (Some (command.Twin l)) left b told h = of_input left b (λ bytes. IsTooLong (Some (command.Twin l)) bytes) told (first_rule (command.Twin l) b h)
long_input (Some (command.Gen n)) left b told h = let no : status.Script 1 1 ≡ status.Done = h ∙ made_done n b in cc

-- ---- what is written
-- usage and a refusal write their one line
line_of : (usage : List ℕ) (asked : Option Command) (b : List ℕ) (history : List Event) (end : Status) (t : List ℕ) (after : Option (List ℕ)) → IsEndOf (outcome_of usage asked b history) end
    → WritesFor end (text_of (outcome_of usage asked b history)) t after → WritesLine usage end t after
line_of usage asked b history status.Done t after is h = tt
line_of usage None b history status.Usage t after is h = h
line_of usage (Some c) b history status.Usage t after is h = absurd (never_usage c b (is ∙ status_is usage (Some c) b history))
line_of usage asked b history (status.Script line rule) t after is h = h ∙ ap (λ text. Some (t ++ text)) (refusal_text (outcome_of usage asked b history) line rule is)
line_of usage asked b history (status.Image at rule) t after is h = h ∙ ap (λ text. Some (t ++ text)) (fault_text (outcome_of usage asked b history) at rule is)
line_of usage asked b history status.ReadFault t after is h = absurd is
line_of usage asked b history status.WriteFault t after is h = tt
line_of usage asked b history status.NoMemory t after is h = tt

-- the text that went out is that of one history
text_of_one : (Is : List Event → Type 0) (of : List Event → Outcome) (end : Status) (taken after : Option (List ℕ)) (history : List Event) → Is history
    → IfSome taken (λ t. WritesFor end (text_of (of history)) t after) → IfSome taken (λ t. ExistsHistory Is (λ h. WritesFor end (text_of (of h)) t after))
text_of_one Is of end None after history is w = tt
text_of_one Is of end (Some t) after history is w = record { history = history; is = is; holds = w }

-- the report that went out hides what is high
hiding_one : (Is : List Event → Type 0) (b : List ℕ) (end : Status) (taken after : Option (List ℕ)) (history : List Event) → Is history → end ≡ status.Done
    → IsEndOf (outcome_in command.Run b history) end → IfSome taken (λ t. WritesFor end (text_of (outcome_in command.Run b history)) t after)
    → IfSome taken (λ t. ExistsHistory Is (λ h. TakesNoninterferentReport (script_in b) h t after))
hiding_one Is b end None after history is done f w = tt
hiding_one Is b end (Some t) after history is done f w =
    let o = outcome_in command.Run b history in
    let fits_done : status.Done ≡ status_of o = subst (IsEndOf o) done f in
    let went : after ≡ Some (t ++ text_of o) = subst (λ (x : Status). WritesFor x (text_of o) t after) done w in
    record {
      history = history;
      is = is;
      holds = record {
        went_out = went ∙ ap (λ text. Some (t ++ text)) (done_text b history fits_done);
        history = noninterference (world_opened (script_in b)) history;
        lines = low_lines (script_in b) history;
      };
    }

-- nothing went out
nothing_of_one : (Is : List Event → Type 0) (of : List Event → Outcome) (taken : Option (List ℕ)) (history : List Event) → Is history
    → IfSome taken (λ t. ExistsHistory Is (λ h. WritesFor status.ReadFault (text_of (of h)) t taken))
nothing_of_one Is of None history is = tt
nothing_of_one Is of (Some t) history is = record { history = history; is = is; holds = refl }

no_line : (usage : List ℕ) (taken : Option (List ℕ)) → IfSome taken (λ t. WritesLine usage status.ReadFault t taken)
no_line usage None = tt
no_line usage (Some t) = tt

-- what holds of all holds where one is told
pub of_any : (o : Option (List ℕ)) (P : List ℕ → Type 0) → ((b : List ℕ) → P b) → IfSome o P
of_any None P h = tt
of_any (Some b) P h = h b

lines_of : (usage : List ℕ) (asked : Option Command) (b : List ℕ) (history : List Event) (end : Status) (taken after : Option (List ℕ)) → IsEndOf (outcome_of usage asked b history) end
    → IfSome taken (λ t. WritesFor end (text_of (outcome_of usage asked b history)) t after) → IfSome taken (λ t. WritesLine usage end t after)
lines_of usage asked b history end None after is w = tt
lines_of usage asked b history end (Some t) after is w = line_of usage asked b history end t after is w

none_is : (asked : Option Command) → is_none asked ≡ true → asked ≡ None
none_is None h = refl
none_is (Some c) h = cc

-- ---- the verdict
-- What was asked for came to an end with this status, by a history to which the lanes of the script can come.
pub record CameTo (Comes : List Line → List Event → Type 0) (usage : List ℕ) (asked : Option Command) (left : Option (List ℕ)) (end : Status)
    (taken after : Option (List ℕ)) (done : Bool) (before now : ℕ) : Type 0 where
  pub bytes : List ℕ
  pub told : IfSome (input_of asked left) (λ input. bytes ≡ input)
  pub history : List Event
  pub is : Comes (script_for asked bytes) history
  pub ends : Ends (outcome_of usage asked bytes history) end taken after done before now

-- what is promised where no read failed, and where one did
pub record Verdict (Comes : List Line → List Event → Type 0) (usage : List ℕ) (asked : Option Command) (left : Option (List ℕ)) (end : Status)
    (taken after : Option (List ℕ)) (done : Bool) (before now : ℕ) : Type 0 where
  pub written : IfSome (input_of asked left)
      (λ bytes. IfSome taken (λ t. ExistsHistory (Comes (script_for asked bytes)) (λ history. WritesFor end (text_of (outcome_of usage asked bytes history)) t
      after)))
  pub line : IfSome taken (λ t. WritesLine usage end t after)
  pub finished : IsAnswer end → done ≡ true
  pub noninterference : end ≡ status.Done → asked ≡ Some command.Run
      → IfSome left (λ bytes. IfSome taken (λ t. ExistsHistory (Comes (script_in bytes)) (λ history. TakesNoninterferentReport (script_in bytes) history t
      after)))
  pub fits : FitsCommand end asked
  pub answer : IsAnswer end → IfSome (input_of asked left) (λ bytes. end ≡ called_for asked bytes)
  pub kept : IsAnswer end → now ≡ before
  pub too_long : end ≡ status.Script 1 1 → IfSome left (λ bytes. IsTooLong asked bytes)
  pub write_fault : end ≡ status.WriteFault → Rose before now
  pub usage_only : is_none asked ≡ true → (Rose before now → ⊥) → (end ≡ status.Usage) ⊎ (end ≡ status.NoMemory)
  pub made : (n : ℕ) → asked ≡ Some (command.Gen n) → (Rose before now → ⊥) → (end ≡ status.Done) ⊎ (end ≡ status.NoMemory)
  pub complete : (end ≡ status.ReadFault → ⊥) → (Rose before now → ⊥) → IfSome (input_of asked left) (λ bytes. (end ≡ called_for asked bytes) ⊎ (end ≡ status.NoMemory))

module _ {Comes : List Line → List Event → Type 0} {usage : List ℕ} {asked : Option Command} {left : Option (List ℕ)} {end : Status}
    {taken after : Option (List ℕ)} {done : Bool} {before now : ℕ} where
  came : CameTo Comes usage asked left end taken after done before now → Verdict Comes usage asked left end taken after done before now
  came c =
      let b = c.bytes in
      let h = c.history in
      let e = c.ends in
      let o = outcome_of usage asked b h in
      let answers : IsAnswer end → end ≡ called_for asked b = λ a. of_answer o end e.fits a ∙ status_is usage asked b h in
      let never : (end ≡ status.ReadFault → ⊥) = λ is. subst (IsEndOf o) is e.fits in
      let called : (Rose before now → ⊥) → (end ≡ called_for asked b) ⊎ (end ≡ status.NoMemory) = λ f. elim (or_memory o end e.fits (λ is. f (e.fault is))) [
        | inl is ↦ inl (is ∙ status_is usage asked b h)
        | inr is ↦ inr is
      ] in
      record {
        written = of_input (input_of asked left) b _ c.told (text_of_one (Comes (script_for asked b)) (λ k. outcome_of usage asked b k) end taken after h c.is e.text);
        line = lines_of usage asked b h end taken after e.fits e.text;
        finished = e.finished;
        noninterference = λ is run. of_input left b _ (subst (λ a. IfSome (input_of a left) (λ input. b ≡ input)) run c.told)
            (hiding_one (Comes (script_in b)) b end taken after h (subst (λ a. Comes (script_for a b) h) run c.is) is (subst (λ a. IsEndOf (outcome_of usage a b h) end) run e.fits)
            (subst (λ a. IfSome taken (λ t. WritesFor end (text_of (outcome_of usage a b h)) t after)) run e.text));
        fits = fits_asked asked b end answers (λ is. absurd (never is));
        answer = λ a. of_input (input_of asked left) b _ c.told (answers a);
        kept = e.kept;
        too_long = λ is. long_input asked left b c.told (sym is ∙ answers (subst IsAnswer (sym is) tt));
        write_fault = e.fault;
        usage_only = λ none f. elim (called f) [
          | inl is ↦ inl (is ∙ ap (λ a. called_for a b) (none_is asked none) ∙ usage_called b)
          | inr is ↦ inr is
        ];
        made = λ n is f. elim (called f) [
          | inl k ↦ inl (k ∙ ap (λ a. called_for a b) is ∙ made_done n b)
          | inr k ↦ inr k
        ];
        complete = λ _ f. of_input (input_of asked left) b _ c.told (called f);
      }

-- a read failed, and nothing was written
faulted : (Comes : List Line → List Event → Type 0) → ((s : List Line) → Comes s (serial s))
    → (usage : List ℕ) (asked : Option Command) (left taken : Option (List ℕ)) (done : Bool) (before now : ℕ) → reads_source asked ≡ true
    → Verdict Comes usage asked left status.ReadFault taken taken done before now
faulted Comes serials usage asked left taken done before now reads = record {
  written = of_any (input_of asked left) _ (λ b. nothing_of_one (Comes (script_for asked b)) (λ k. outcome_of usage asked b k) taken (serial (script_for asked b)) (serials (script_for asked b)));
  line = no_line usage taken;
  finished = λ a. absurd a;
  noninterference = λ is run. cc;
  fits = reads;
  answer = λ a. absurd a;
  kept = λ a. absurd a;
  too_long = λ is. cc;
  write_fault = λ is. cc;
  usage_only = λ none f. let no : reads_source None ≡ true = subst (λ a. reads_source a ≡ true) (none_is asked none) reads in cc;
  made = λ n is f. let no : reads_source (Some (command.Gen n)) ≡ true = subst (λ a. reads_source a ≡ true) is reads in cc;
  complete = λ never f. absurd (never refl);
}

-- of what ended before the lanes were run
pub verdict_ended : (Comes : List Line → List Event → Type 0) → ((s : List Line) → Comes s (serial s))
    → (usage : List ℕ) (asked : Option Command) (left : Option (List ℕ)) (end : Status) (taken after : Option (List ℕ)) (done : Bool) (before now : ℕ)
    → (end ≡ status.ReadFault → reads_source asked ≡ true) → (end ≡ status.ReadFault → after ≡ taken)
    → ((end ≡ status.ReadFault → ⊥) → Prepares usage asked left (task.Ended end) taken after done before now) → Verdict Comes usage asked left end taken after done before now
verdict_ended Comes serials usage asked left end taken after done before now reads none prepared = elim (is_fault end) [
  | inl is ↦
      let nothing : Verdict Comes usage asked left status.ReadFault taken taken done before now = faulted Comes serials usage asked left taken done before now (reads is) in
      subst (λ (x : Status). Verdict Comes usage asked left x taken after done before now) (sym is)
      (subst (λ (o : Option (List ℕ)). Verdict Comes usage asked left status.ReadFault taken o done before now) (sym (none is)) nothing)
  | inr not ↦ let p = prepared not in
      came (record {
        bytes = p.bytes;
        told = p.told;
        history = serial (script_for asked p.bytes);
        is = serials (script_for asked p.bytes);
        ends =
            p.leads (serial (script_for asked p.bytes));
      })
]
  where
    is_fault : (s : Status) → (s ≡ status.ReadFault) ⊎ (s ≡ status.ReadFault → ⊥)
    is_fault status.Done = inr (λ is. cc)
    is_fault status.Usage = inr (λ is. cc)
    is_fault (status.Script line rule) = inr (λ is. cc)
    is_fault status.ReadFault = inl refl
    is_fault status.WriteFault = inr (λ is. cc)
    is_fault status.NoMemory = inr (λ is. cc)
    is_fault (status.Image at rule) = inr (λ is. cc)

-- of what was told once they were run
pub verdict_told : {Comes : List Line → List Event → Type 0} {usage : List ℕ} {asked : Option Command} {left : Option (List ℕ)} {told : Telling} {s : List Line}
    {policy : Option (List Rule)} {end : Status} {taken between after : Option (List ℕ)} {done waiting : Bool} {before then now : ℕ} (history : List Event)
    → Prepares usage asked left (task.Run told s policy) taken between waiting before then → Comes s history → Ends (outcome.Whole (text_told told s history)) end taken after done before now
    → Verdict Comes usage asked left end taken after done before now
verdict_told {Comes} history p is e = came (record {
  bytes = p.bytes;
  told = p.told;
  history = history;
  is = subst (λ t. Comes t history) p.leads.0 is;
  ends = ends_as (sym (p.leads.3 history)) e;
})

-- ---- single promises
-- after an answer no read failed
pub answer_read : (end : Status) → IsAnswer end → task.Ended end ≡ task.Ended status.ReadFault → ⊥
answer_read end a is = let fault : end ≡ status.ReadFault = cc in subst IsAnswer fault a

-- nor after lanes were run
pub told_read : (text : List ℕ) (end : Status) → IsEndOf (outcome.Whole text) end → end ≡ status.ReadFault → ⊥
told_read text end h is = subst (IsEndOf (outcome.Whole text)) is h

-- then the source was read to its end
pub told_read_out : (most : ℕ) (text : List ℕ) (end : Status) (first left : Option (List ℕ)) → IsEndOf (outcome.Whole text) end → IfSome first (λ bytes. left ≡ Some [])
    → IfSome first (λ bytes. ReadsOut most end bytes left)
told_read_out most text end None left h w = tt
told_read_out most text status.Done (Some bytes) left h w = w
told_read_out most text status.Usage (Some bytes) left h w = tt
told_read_out most text (status.Script line rule) (Some bytes) left h w = cc
told_read_out most text (status.Image at rule) (Some bytes) left h w = cc
told_read_out most text status.ReadFault (Some bytes) left h w = tt
told_read_out most text status.WriteFault (Some bytes) left h w = tt
told_read_out most text status.NoMemory (Some bytes) left h w = tt

-- where the serial history is the only one, what holds of one history holds of that
pub at_serial : (script : List ℕ → List Line) (first taken : Option (List ℕ)) (P : List ℕ → List ℕ → List Event → Type 0)
    → IfSome first (λ bytes. IfSome taken (λ t. ExistsHistory (λ history. history ≡ serial (script bytes)) (λ history. P bytes t history)))
    → IfSome first (λ bytes. IfSome taken (λ t. P bytes t (serial (script bytes))))
at_serial script None taken P h = tt
at_serial script (Some bytes) None P h = tt
at_serial script (Some bytes) (Some t) P h = subst (P bytes t) h.is h.holds

-- nothing is written where memory ran out
pub memory_written : (Comes : List Line → List Event → Type 0) → ((s : List Line) → Comes s (serial s)) → (text : List ℕ → List Event → List ℕ) (first taken : Option (List ℕ))
    → IfSome first (λ bytes. IfSome taken (λ t. ExistsHistory (Comes (script_in bytes)) (λ history. WritesFor status.NoMemory (text bytes history) t taken)))
memory_written Comes serials text None taken = tt
memory_written Comes serials text (Some bytes) None = tt
memory_written Comes serials text (Some bytes) (Some t) =
    let history = serial (script_in bytes) in
    record { history = history; is = serials (script_in bytes); holds = unwritten (Some t) (text bytes history) }
