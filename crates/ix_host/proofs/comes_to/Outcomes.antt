-- What a command comes to.
use Rattle.std.proofs.Common.{◌≡◌, ℕ, ◌+◌, ◌-◌, ◌<◌, ◌≤◌, Bool, true, false, List, [], length, drop, Option, Some, None, Ok, refl, sym, ap, ◌∙◌, if◌then◌else◌}
use Rattle.std.proofs.Common.{unwrap_or, nat_lt, arith, inl, inr, length-drop}
use Rattle.std.{proofs.lemmas.Bool.{cases_Bool, le-ltb, ltb-true}, specs.{Option.{option_and_then, option_map, option_or}, Prelude.IfSome, Result.is_err}}
use Rattle.ix_label.specs.{declared.form.Form.Form, Category.Categories}
use Rattle.ix_model.specs.history.Events.{Event}
use Rattle.ix_policy.specs.Policies.{policy}
use Rattle.ix_script.specs.{lines.{Before.form_told, Faults.fault_of}, scripts.Scripts.{policy_of, script_of}, declared.line.Line.Line}
use Rattle.ix_host.specs.{declared.arguments.command.Command.Command, Policies.{policy_refusal, refused_policy}, Traces.traces, Saved.image_left}
use Rattle.ix_host.specs.{Seconds.{further_down, refusal_in, second_in, second_refusal}, run.Run.{called_for, unless_done, unless_listed}}
use Rattle.ix_host.specs.report.Rules.{image_line, refusal_line}
use Rattle.ix_host.specs.declared.arguments.command.Command.TheVariants as command
use Rattle.ix_host.specs.declared.status.Status.TheVariants as status
use Rattle.ix_check.specs.{Parts.{report_part, script_part}, Plans.found_in, Verdicts.verdict_line}
use Rattle.ix_host.specs.run.Inputs.{IsReadable, IsShortFor, IsTooLong, beside_bytes, check_max, input_max, reads_image, reads_source, script_bytes, script_in}
use Rattle.ix_host.specs.run.Inputs.{script_max, twin_max}
use Rattle.ix_image.specs.{Image.longest, Lines.list_of, Reading.{image_fault, tree_in}, Trees.TreeOf}
use Rattle.ix_twin.specs.{Lines.twin_text, Parts.{first_part, lines_before, second_part}}
use Rattle.ix_host.specs.run.Outcome.{Outcome, outcome_for, outcome_in, outcome_of, refusal_of, refused_by, listed, script_refusal, status_of, text_for}
use Rattle.ix_host.specs.run.Outcome.{text_of, too_long_for, unless_faulty, unless_refused}
use Rattle.ix_host.specs.run.Outcome as outcome
use Rattle.ix_replay.specs.report.Report.{report_of}
use Rattle.ix_host.proofs.comes_to.{LaterRules.not_rule_one, Seconds.{refused_at_line, some_before, without_fault}}

-- ---- a script
-- a command that asks for one script alone
abbrev pub IsAlone : Command → Type 0
IsAlone (command.Twin l) = ⊥
IsAlone _ = Unit {0}

-- one whose policy isn't refused is not refused
pub accepted : (c : Command) (s : List Line) (beside : List ℕ) → policy_refusal s ≡ None → IsAlone c → script_refusal c s beside ≡ None
unfolding script_refusal
accepted command.Run s beside h alone = h
accepted command.Print s beside h alone = h
accepted (command.Gen n) s beside h alone = refl
accepted command.Check s beside h alone = h
accepted command.Flow s beside h alone = h
accepted command.Save s beside h alone = h
accepted command.Load s beside h alone = refl
accepted (command.Twin l) s beside h alone = absurd alone

-- for `twin` it is refused for what the second is refused for
pub outcome_twin : (l : Categories) (s : List Line) (beside : List ℕ) (history : List Event) → policy_refusal s ≡ None
    → unless_refused (second_refusal beside) (twin_text l s (second_in beside)) ≡ outcome_for (command.Twin l) s beside history
unfolding outcome_for script_refusal text_for
outcome_twin l s beside history h = sym (ap (λ o. unless_refused (option_or o (second_refusal beside)) (twin_text l s (second_in beside))) h)

-- one that is refused
pub outcome_refused : (c : Command) (s : List Line) (line rule : ℕ) (claimed : List ℕ) (history : List Event)
    → script_refusal c s claimed ≡ Some (line, rule) → outcome.Refused line rule ≡ outcome_for c s claimed history
unfolding outcome_for
outcome_refused c s line rule claimed history is = rw (outcome_for, is) refl

-- one that isn't
pub outcome_accepted : (c : Command) (s : List Line) (claimed : List ℕ) (history : List Event)
    → script_refusal c s claimed ≡ None → outcome.Whole (text_for c s claimed history) ≡ outcome_for c s claimed history
unfolding outcome_for
outcome_accepted c s claimed history is = rw (outcome_for, is) refl

-- one whose policy isn't refused comes to its text
pub outcome_alone : {asked : Command} (c : Command) (s : List Line) (beside : List ℕ) (history : List Event) → policy_refusal s ≡ None → IsAlone c → asked ≡ c
    → outcome.Whole (text_for c s beside history) ≡ outcome_for asked s beside history
outcome_alone c s beside history h alone is = outcome_accepted c s beside history (accepted c s beside h alone) ∙ ap (λ k. outcome_for k s beside history) (sym is)

-- ---- an input
-- one that isn't too long for `check`, or for `twin`
short : (bytes : List ℕ) → length bytes ≤ check_max → nat_lt check_max (length bytes) ≡ false
short bytes few = le-ltb check_max (length bytes) few

both_short : (bytes : List ℕ) → length bytes ≤ twin_max → nat_lt twin_max (length bytes) ≡ false
both_short bytes few = le-ltb twin_max (length bytes) few

-- so it is short enough to be compared with
pub short_for : (c : Command) (bytes : List ℕ) → IsReadable c bytes → IsShortFor c (beside_bytes c bytes)
short_for command.Run bytes h = tt
short_for command.Print bytes h = tt
short_for (command.Gen n) bytes h = tt
short_for command.Check bytes h = tt
short_for command.Flow bytes h = tt
short_for command.Save bytes h = tt
short_for command.Load bytes h = tt
short_for (command.Twin l) bytes h = h

-- one whose script has a fault
pub outcome_fault : (c : Command) (bytes : List ℕ) (line rule : ℕ) (history : List Event) → reads_image c ≡ false → IsReadable c bytes → fault_of (script_bytes c bytes) ≡ Some (line, rule)
    → outcome.Refused line rule ≡ outcome_in c bytes history
unfolding outcome_in refusal_of
outcome_fault command.Run bytes line rule history scripted readable is = rw (outcome_in, is) refl
outcome_fault command.Print bytes line rule history scripted readable is = rw (outcome_in, is) refl
outcome_fault (command.Gen n) bytes line rule history scripted readable is = cc
outcome_fault command.Check bytes line rule history scripted readable is = rw (outcome_in, short bytes readable, is) refl
outcome_fault command.Flow bytes line rule history scripted readable is = rw (outcome_in, is) refl
outcome_fault command.Save bytes line rule history scripted readable is = rw (outcome_in, is) refl
outcome_fault command.Load bytes line rule history scripted readable is = cc
outcome_fault (command.Twin l) bytes line rule history scripted readable is = rw (outcome_in, both_short bytes readable, is) refl

pub in_script : (bytes : List ℕ) (s : List Line) → script_of bytes ≡ Some s → s ≡ script_in bytes
in_script bytes s is = ap (λ (o : Option (List Line)). unwrap_or o []) (sym is)

-- one that has a script
pub outcome_script : (c : Command) (bytes : List ℕ) (s : List Line) (history : List Event) → reads_image c ≡ false → IsReadable c bytes → script_of (script_bytes c bytes) ≡ Some s
    → outcome_for c s (beside_bytes c bytes) history ≡ outcome_in c bytes history
unfolding outcome_for outcome_in refusal_of script_refusal
outcome_script command.Run bytes s history scripted readable is = rw (outcome_in, without_fault bytes s is, is) refl
outcome_script command.Print bytes s history scripted readable is = rw (outcome_in, without_fault bytes s is, is) refl
outcome_script (command.Gen n) bytes s history scripted readable is = rw (outcome_for, is) refl
outcome_script command.Check bytes s history scripted readable is = rw (outcome_in, short bytes readable, without_fault (script_part bytes) s is, is) refl
outcome_script command.Flow bytes s history scripted readable is = rw (outcome_in, without_fault bytes s is, is) refl
outcome_script command.Save bytes s history scripted readable is = rw (outcome_in, without_fault bytes s is, is) refl
outcome_script command.Load bytes s history scripted readable is = cc
outcome_script (command.Twin l) bytes s history scripted readable is = rw (outcome_in, both_short bytes readable, without_fault (first_part bytes) s is, is) refl

-- one that is an image, or is to be one
pub image_command : (c : Command) → reads_image c ≡ true → c ≡ command.Load
image_command command.Run h = cc
image_command command.Print h = cc
image_command (command.Gen n) h = cc
image_command command.Check h = cc
image_command command.Flow h = cc
image_command command.Save h = cc
image_command command.Load h = refl
image_command (command.Twin l) h = cc

outcome_load : (bytes : List ℕ) (history : List Event) → unless_faulty (image_fault bytes) (listed (tree_in bytes)) ≡ outcome_in command.Load bytes history
unfolding outcome_in text_for
outcome_load bytes history = refl

pub outcome_image : (c : Command) (bytes : List ℕ) (history : List Event) → reads_image c ≡ true → unless_faulty (image_fault bytes) (listed (tree_in bytes)) ≡ outcome_in c bytes history
outcome_image c bytes history is = outcome_load bytes history ∙ ap (λ k. outcome_in k bytes history) (sym (image_command c is))

-- an image that is too long
image_long : (bytes : List ℕ) → nat_lt longest (length bytes) ≡ true → image_fault bytes ≡ Some (longest, 9)
unfolding tree_in
image_long bytes long =
    let place : length bytes - length (drop longest bytes) ≡ longest = omega (arith, ltb-true longest (length bytes) long, length-drop longest bytes) in
    rw (tree_in, long) (ap (λ (n : ℕ). Some (n, 9)) place)

-- one that is too long
pub outcome_too_long : (c : Command) (bytes : List ℕ) (history : List Event) → reads_source (Some c) ≡ true → nat_lt (input_max (Some c)) (length bytes) ≡ true
    → too_long_for c ≡ outcome_in c bytes history
unfolding fault_of outcome_in refusal_of
outcome_too_long command.Run bytes history reads long = rw (outcome_in, long) refl
outcome_too_long command.Print bytes history reads long = rw (outcome_in, long) refl
outcome_too_long (command.Gen n) bytes history reads long = cc
outcome_too_long command.Check bytes history reads long = rw (outcome_in, long) refl
outcome_too_long command.Flow bytes history reads long = rw (outcome_in, long) refl
outcome_too_long command.Save bytes history reads long = rw (outcome_in, long) refl
outcome_too_long command.Load bytes history reads long = rw (outcome_in, image_long bytes long) refl
outcome_too_long (command.Twin l) bytes history reads long = rw (outcome_in, long) refl

-- ---- statuses
script_status : (o : Option (ℕ × ℕ)) (text : List ℕ) → status_of (unless_refused o text) ≡ unless_done o
script_status None text = refl
script_status (Some refusal) text = refl

image_status : (o : Option (ℕ × ℕ)) (text : List ℕ) → status_of (unless_faulty o text) ≡ unless_listed o
image_status None text = refl
image_status (Some fault) text = refl

-- the status of a script's outcome is none of an image, and the other way round
pub no_image : (o : Option (ℕ × ℕ)) (at rule : ℕ) → status.Image at rule ≡ unless_done o → ⊥
no_image None at rule h = cc
no_image (Some refusal) at rule h = cc

pub no_script : (o : Option (ℕ × ℕ)) (line rule : ℕ) → status.Script line rule ≡ unless_listed o → ⊥
no_script None line rule h = cc
no_script (Some fault) line rule h = cc

pub status_is : (usage : List ℕ) (asked : Option Command) (bytes : List ℕ) (history : List Event) → status_of (outcome_of usage asked bytes history) ≡ called_for asked bytes
unfolding outcome_in called_for
status_is usage None bytes history = refl
status_is usage (Some command.Run) bytes history =
    script_status (refusal_of command.Run bytes) (text_for command.Run (script_in (script_bytes command.Run bytes)) (beside_bytes command.Run bytes) history)
status_is usage (Some command.Print) bytes history =
    script_status (refusal_of command.Print bytes) (text_for command.Print (script_in (script_bytes command.Print bytes)) (beside_bytes command.Print bytes)
    history)
status_is usage (Some (command.Gen n)) bytes history =
    script_status (refusal_of (command.Gen n) bytes) (text_for (command.Gen n) (script_in (script_bytes (command.Gen n) bytes))
    (beside_bytes (command.Gen n) bytes) history)
status_is usage (Some command.Check) bytes history =
    script_status (refusal_of command.Check bytes) (text_for command.Check (script_in (script_bytes command.Check bytes)) (beside_bytes command.Check bytes)
    history)
status_is usage (Some command.Flow) bytes history =
    script_status (refusal_of command.Flow bytes) (text_for command.Flow (script_in (script_bytes command.Flow bytes)) (beside_bytes command.Flow bytes)
    history)
status_is usage (Some command.Save) bytes history =
    script_status (refusal_of command.Save bytes) (text_for command.Save (script_in (script_bytes command.Save bytes)) (beside_bytes command.Save bytes)
    history)
status_is usage (Some (command.Twin l)) bytes history =
    script_status (refusal_of (command.Twin l) bytes) (text_for (command.Twin l) (script_in (script_bytes (command.Twin l) bytes))
    (beside_bytes (command.Twin l) bytes) history)
status_is usage (Some command.Load) bytes history = image_status (image_fault bytes) (text_for command.Load [] bytes history)

no_usage : (o : Option (ℕ × ℕ)) → status.Usage ≡ unless_done o → ⊥
no_usage None h = cc
no_usage (Some refusal) h = cc

no_image_usage : (o : Option (ℕ × ℕ)) → status.Usage ≡ unless_listed o → ⊥
no_image_usage None h = cc
no_image_usage (Some fault) h = cc

-- no command calls for the usage line
pub never_usage : (c : Command) (bytes : List ℕ) → status.Usage ≡ called_for (Some c) bytes → ⊥
unfolding called_for
never_usage command.Run bytes h = no_usage (refusal_of command.Run bytes) h
never_usage command.Print bytes h = no_usage (refusal_of command.Print bytes) h
never_usage (command.Gen n) bytes h = no_usage (refusal_of (command.Gen n) bytes) h
never_usage command.Check bytes h = no_usage (refusal_of command.Check bytes) h
never_usage command.Flow bytes h = no_usage (refusal_of command.Flow bytes) h
never_usage command.Save bytes h = no_usage (refusal_of command.Save bytes) h
never_usage (command.Twin l) bytes h = no_usage (refusal_of (command.Twin l) bytes) h
never_usage command.Load bytes h = no_image_usage (image_fault bytes) h

-- without a command that line alone is called for
pub usage_called : (bytes : List ℕ) → called_for None bytes ≡ status.Usage
unfolding called_for
usage_called bytes = refl

-- `gen` calls for no other status
pub made_done : (n : ℕ) (bytes : List ℕ) → called_for (Some (command.Gen n)) bytes ≡ status.Done
unfolding called_for refusal_of
made_done n bytes = refl

-- what isn't a refusal by the first rule
abbrev IsLater : Option (ℕ × ℕ) → Type 0
IsLater o = (n : ℕ) → status.Script n 1 ≡ unless_done o → ⊥

or_later : (a b : Option (ℕ × ℕ)) → IsLater a → IsLater b → IsLater (option_or a b)
or_later None b f g = g
or_later (Some refusal) b f g = f

-- that of a policy isn't
policy_later : (form : Form) (p : Option (ℕ × List ℕ)) → IsLater (option_and_then (refused_policy form) p)
policy_later form None n h = cc
policy_later form (Some p) n h = by_test (is_err (policy form p.1)) h
  where
    by_test : (b : Bool) → status.Script n 1 ≡ unless_done (if b then Some (p.0, 27) else None) → ⊥
    by_test true k = cc
    by_test false k = cc

no_policy_one : (s : List Line) → IsLater (policy_refusal s)
unfolding policy_refusal
no_policy_one s n h = policy_later (form_told s) (policy_of s) n h

-- what is refused further down isn't refused at the first line
below_first : (n : ℕ) (o : Option (ℕ × ℕ)) → 0 < n → IfSome o (λ refusal. 0 < refusal.0) → status.Script 1 1 ≡ unless_done (option_map (further_down n) o) → ⊥
below_first n None some low h = cc
below_first n (Some refusal) some low h = let one : 1 ≡ n + refusal.0 = cc in omega (arith, one, some, low)

second_below : (input : List ℕ) → 0 < lines_before input → status.Script 1 1 ≡ unless_done (second_refusal input) → ⊥
unfolding second_refusal
second_below input some h = below_first (lines_before input) (refusal_in (second_part input)) some (refused_at_line (second_part input)) h

-- where a second script is asked for, some lines stand before it
abbrev LinesStand : Command → List ℕ → Type 0
LinesStand (command.Twin l) beside = 0 < lines_before beside
LinesStand _ beside = Unit {0}

-- and the first one stands in the same input
abbrev StandsIn : Command → List ℕ → List ℕ → Type 0
StandsIn (command.Twin l) bytes beside = bytes ≡ first_part beside
StandsIn _ bytes beside = Unit {0}

lines_stand : (c : Command) (bytes beside : List ℕ) → StandsIn c bytes beside → fault_of bytes ≡ None → LinesStand c beside
lines_stand command.Run bytes beside stands h = tt
lines_stand command.Print bytes beside stands h = tt
lines_stand (command.Gen n) bytes beside stands h = tt
lines_stand command.Check bytes beside stands h = tt
lines_stand command.Flow bytes beside stands h = tt
lines_stand command.Save bytes beside stands h = tt
lines_stand command.Load bytes beside stands h = tt
lines_stand (command.Twin l) bytes beside stands h = some_before beside (ap fault_of (sym stands) ∙ h)

-- a script is refused by the first rule at line 1 only where it is too long
script_later : (c : Command) (s : List Line) (beside : List ℕ) → LinesStand c beside → status.Script 1 1 ≡ unless_done (script_refusal c s beside) → ⊥
unfolding script_refusal
script_later command.Run s beside some h = no_policy_one s 1 h
script_later command.Print s beside some h = no_policy_one s 1 h
script_later (command.Gen n) s beside some h = cc
script_later command.Check s beside some h = no_policy_one s 1 h
script_later command.Flow s beside some h = no_policy_one s 1 h
script_later command.Save s beside some h = no_policy_one s 1 h
script_later command.Load s beside some h = cc
script_later (command.Twin l) s beside some h = by_policy (policy_refusal s) (no_policy_one s 1) h
  where
    by_policy : (o : Option (ℕ × ℕ)) → (status.Script 1 1 ≡ unless_done o → ⊥) → status.Script 1 1 ≡ unless_done (option_or o (second_refusal beside)) → ⊥
    by_policy None other k = second_below beside some k
    by_policy (Some refusal) other k = other k

by_later : (c : Command) (bytes beside : List ℕ) → StandsIn c bytes beside → nat_lt 16777216 (length bytes) ≡ false → status.Script 1 1 ≡ unless_done (refused_by c bytes beside) → ⊥
by_later c bytes beside stands few h = of_fault (fault_of bytes) refl h
  where
    of_fault : (o : Option (ℕ × ℕ)) → fault_of bytes ≡ o → status.Script 1 1 ≡ unless_done (option_or o (script_refusal c (script_in bytes) beside)) → ⊥
    of_fault None is k = script_later c (script_in bytes) beside (lines_stand c bytes beside stands is) k
    of_fault (Some fault) is k =
        let one : fault.1 ≡ 1 = cc in
        not_rule_one bytes fault.0 few (is ∙ ap (λ r. Some (fault.0, r)) one)

long_script : (c : Command) (bytes beside : List ℕ) → StandsIn c bytes beside → status.Script 1 1 ≡ unless_done (refused_by c bytes beside) → script_max < length bytes
long_script c bytes beside stands h = elim (cases_Bool (nat_lt script_max (length bytes))) [
  | inl is ↦ ltb-true script_max (length bytes) is
  | inr is ↦ absurd (by_later c bytes beside stands is h)
]

-- a refusal by it is one of an input that is too long
pub first_rule : (c : Command) (bytes : List ℕ) → status.Script 1 1 ≡ called_for (Some c) bytes → IsTooLong (Some c) bytes
unfolding called_for refusal_of
first_rule command.Run bytes h = long_script command.Run bytes [] tt h
first_rule command.Print bytes h = long_script command.Print bytes [] tt h
first_rule (command.Gen n) bytes h = cc
first_rule command.Flow bytes h = long_script command.Flow bytes [] tt h
first_rule command.Save bytes h = long_script command.Save bytes [] tt h
first_rule command.Load bytes h = absurd (no_script (image_fault bytes) 1 1 h)
first_rule command.Check bytes h = by_length (nat_lt check_max (length bytes)) refl h
  where
    by_length : (b : Bool) → nat_lt check_max (length bytes) ≡ b → status.Script 1 1 ≡ unless_done (if b then Some (1, 1) else refused_by command.Check (script_part bytes) (report_part bytes))
        → IsTooLong (Some command.Check) bytes
    by_length true is k = inl (ltb-true check_max (length bytes) is)
    by_length false is k = inr (long_script command.Check (script_part bytes) (report_part bytes) tt k)
first_rule (command.Twin l) bytes h = by_length (nat_lt twin_max (length bytes)) refl h
  where
    by_length : (b : Bool) → nat_lt twin_max (length bytes) ≡ b → status.Script 1 1 ≡ unless_done (if b then Some (1, 1) else refused_by (command.Twin l) (first_part bytes) bytes)
        → IsTooLong (Some (command.Twin l)) bytes
    by_length true is k = inl (ltb-true twin_max (length bytes) is)
    by_length false is k = inr (long_script (command.Twin l) (first_part bytes) bytes refl k)

-- ---- texts
-- the one line of a refusal
pub refusal_text : (o : Outcome) (line rule : ℕ) → status.Script line rule ≡ status_of o → text_of o ≡ refusal_line line rule
refusal_text (outcome.Whole text) line rule is = cc
refusal_text (outcome.Refused l r) line rule is =
    let same_line : l ≡ line = cc in
    let same_rule : r ≡ rule = cc in
    λ i. refusal_line (same_line i) (same_rule i)
refusal_text (outcome.Faulty at r) line rule is = cc
refusal_text (outcome.Usage text) line rule is = cc

-- and of an image's fault
pub fault_text : (o : Outcome) (at rule : ℕ) → status.Image at rule ≡ status_of o → text_of o ≡ image_line at rule
fault_text (outcome.Whole text) at rule is = cc
fault_text (outcome.Refused line r) at rule is = cc
fault_text (outcome.Faulty a r) at rule is =
    let same_place : a ≡ at = cc in
    let same_rule : r ≡ rule = cc in
    λ i. image_line (same_place i) (same_rule i)
fault_text (outcome.Usage text) at rule is = cc

-- what wasn't refused is told as a whole
whole_text : (o : Option (ℕ × ℕ)) (text : List ℕ) → status.Done ≡ status_of (unless_refused o text) → text_of (unless_refused o text) ≡ text
whole_text None text h = refl
whole_text (Some refusal) text h = cc

-- a run that is done was refused nothing
pub done_text : (bytes : List ℕ) (history : List Event) → status.Done ≡ status_of (outcome_in command.Run bytes history)
    → text_of (outcome_in command.Run bytes history) ≡ report_of (script_in bytes) history
unfolding outcome_in text_for
done_text bytes history is = whole_text (refusal_of command.Run bytes) (report_of (script_in bytes) history) is

-- a check that is done told what is found of the text
pub done_answer : (bytes : List ℕ) (history : List Event) → status.Done ≡ status_of (outcome_in command.Check bytes history)
    → text_of (outcome_in command.Check bytes history) ≡ verdict_line (found_in (script_in (script_part bytes)) (report_part bytes))
unfolding outcome_in text_for
done_answer bytes history is = whole_text (refusal_of command.Check bytes) (verdict_line (found_in (script_in (script_part bytes)) (report_part bytes))) is

-- a comparison that is done told what is written of the two scripts
pub done_twins : (l : Categories) (bytes : List ℕ) (history : List Event) → status.Done ≡ status_of (outcome_in (command.Twin l) bytes history)
    → text_of (outcome_in (command.Twin l) bytes history) ≡ twin_text l (script_in (first_part bytes)) (second_in bytes)
unfolding outcome_in text_for
done_twins l bytes history is = whole_text (refusal_of (command.Twin l) bytes) (twin_text l (script_in (first_part bytes)) (second_in bytes)) is

-- and a flow that is done told where the bytes came from
pub done_traces : (bytes : List ℕ) (history : List Event) → status.Done ≡ status_of (outcome_in command.Flow bytes history) → text_of (outcome_in command.Flow bytes history) ≡ traces (script_in bytes)
unfolding outcome_in text_for
done_traces bytes history is = whole_text (refusal_of command.Flow bytes) (traces (script_in bytes)) is

-- a save that is done told the image of the tree that is left
pub done_image : (bytes : List ℕ) (history : List Event) → status.Done ≡ status_of (outcome_in command.Save bytes history)
    → text_of (outcome_in command.Save bytes history) ≡ image_left (script_in bytes)
unfolding outcome_in text_for
done_image bytes history is = whole_text (refusal_of command.Save bytes) (image_left (script_in bytes)) is

-- and what is told of bytes that are the image of a tree is its list
pub list_told : (bytes : List ℕ) (tree : TreeOf) (history : List Event) → tree_in bytes ≡ Ok tree → text_of (outcome_in command.Load bytes history) ≡ list_of tree
unfolding outcome_in text_for
list_told bytes tree history is = rw (outcome_in, text_for, is) refl
