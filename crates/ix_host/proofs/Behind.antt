-- A script with a report behind it.
use Rattle.std.proofs.Common.{◌≡◌, ℕ, ◌+◌, ◌==◌, ◌||◌, Bool, true, false, List, [], ◌∷◌, ◌++◌, length, take, drop, Option, Some, None, refl, sym, ap, ◌∙◌, inl}
use Rattle.std.proofs.Common.{subst, arith, append-nil, append_assoc, if◌then◌else◌, unwrap_or, codes, inr, ◌⊎◌, nat_lt}
use Rattle.std.{specs.Option.{option_or, option_map_or}, proofs.lemmas.Slice.Eq.bytes_eq-Decides}
use Rattle.ix_label.specs.declared.form.Form.{Form, TheVariants.{One, Two}}
use Rattle.ix_model.specs.{history.{Events.Event, Step.run}, opening.Opening.opening_world, world.Naming.same_bytes}
use Rattle.ix_model.specs.world.Texts as texts
use Rattle.ix_text.specs.Bytes.{is_empty}
use Rattle.ix_script.specs.{declared.line.Line.Line, lines.{Before.{form_told, lanes_of}, Said.{line_of, version_of}}, scripts.Scripts.{config_of, script_of}}
use Rattle.ix_script.specs.texts.{Cutting.{is_closed, is_policy_line, is_skipped, pieces, word_at, words_of}, Lines.{cut, lines_of}}
use Rattle.ix_script.specs.declared.line.Line.TheVariants as line
use Rattle.ix_script.specs.lines.Faults.{body_fault, command_fault, fault_from, fault_of, first_line_fault, form_fault, line_fault, or_next, text_fault}
use Rattle.ix_script.specs.lines.Faults.{words_fault}
use Rattle.ix_script.specs.lines.Forms.{counted_of, file_form, form_of, frame_form, group_form, on_fd_of, on_path_of, plain_of, process_form}
use Rattle.ix_report.specs.LineText.{head_line}
use Rattle.ix_replay.specs.report.{Fixed.ScriptsNamed, Report.{closing_text, entries_text, report_of}}
use Rattle.ix_judging.specs.{Bytes.{is_line, joined, split, with_byte, with_feed}, Judge.Yes}
use Rattle.ix_check.{specs.Laws.PrintedIsGood, specs.Parts.{before_report, from_report, is_heading, lines_in, report_part, script_part, with_front}}
use Rattle.ix_check.{specs.Plans.found_in, specs.Verdicts.verdict_line, proofs.InputParts.{joined_lines, lines-line}}
use Rattle.ix_host.specs.{Laws.PrintedIsYes, run.Outcome.{outcome_for, outcome_in, text_for}}
use Rattle.ix_host.proofs.comes_to.{Outcomes.{accepted, outcome_accepted, outcome_script}, Seconds.without_fault}
use Rattle.ix_host.specs.declared.arguments.command.Command.TheVariants as command
use Rattle.ix_host.specs.run.Outcome as outcome

-- ---- lines
abbrev feed : List ℕ → List ℕ
feed l = l ++ 10 ∷ []

-- each with a line feed behind it
abbrev fed : List (List ℕ) → List (List ℕ)
fed [] = []
fed (l ∷ ls) = feed l ∷ fed ls

-- a text that ends by a line feed does so without its first byte, too, and something is left then
less_whole : (b : ℕ) (ls : List (List ℕ)) (whole : Bool) → (with_byte b ls whole).whole ≡ true → whole ≡ true
less_whole b [] whole h = cc
less_whole b (l ∷ ls) whole h = h

not_whole : (b : ℕ) → (with_byte b [] true).whole ≡ true → ⊥
not_whole b h = cc

-- some bytes are cut into some lines
record Some_lines (ls : List (List ℕ)) : Type 0 where
  one : List ℕ
  more : List (List ℕ)
  is : ls ≡ one ∷ more

front_some : (b : ℕ) (ls : List (List ℕ)) → Some_lines (texts.with_front b ls)
front_some b [] = record { one = b ∷ []; more = []; is = refl }
front_some b (l ∷ ls) = record { one = b ∷ l; more = ls; is = refl }

cut_some : (b : ℕ) (bytes : List ℕ) → Some_lines (cut (b ∷ bytes))
unfolding cut
cut_some b bytes = go (b == 10)
  where
    go : (x : Bool) → Some_lines (if x then [] ∷ cut bytes else texts.with_front b (cut bytes))
    go true = record { one = []; more = cut bytes; is = refl }
    go false = front_some b (cut bytes)

-- the lines of a text that ends by a line feed are those that it is cut into
front_fed : (b : ℕ) (ls : List (List ℕ)) → Some_lines ls → with_front b (fed ls) ≡ fed (texts.with_front b ls)
front_fed b [] some = let odd : [] ≡ some.one ∷ some.more = some.is in cc
front_fed b (l ∷ ls) some = refl

front_cut : (b : ℕ) (bytes : List ℕ) → ((split bytes).whole ≡ true → lines_in bytes ≡ fed (cut bytes)) → (with_byte b (split bytes).lines (split bytes).whole).whole ≡ true
    → with_front b (lines_in bytes) ≡ fed (texts.with_front b (cut bytes))
front_cut b [] rest h = absurd (not_whole b h)
front_cut b (c ∷ bytes) rest h =
    ap (with_front b) (rest (less_whole b (split (c ∷ bytes)).lines (split (c ∷ bytes)).whole h)) ∙ front_fed b (cut (c ∷ bytes)) (cut_some c bytes)

cut_step : (b : ℕ) (bytes : List ℕ) → ((split bytes).whole ≡ true → lines_in bytes ≡ fed (cut bytes)) → (x : Bool)
    → (if x then with_feed (split bytes).lines (split bytes).whole else with_byte b (split bytes).lines (split bytes).whole).whole ≡ true
    → (if x then (10 ∷ []) ∷ lines_in bytes else with_front b (lines_in bytes)) ≡ fed (if x then [] ∷ cut bytes else texts.with_front b (cut bytes))
cut_step b bytes rest true h = ap (λ (ls : List (List ℕ)). (10 ∷ []) ∷ ls) (rest h)
cut_step b bytes rest false h = front_cut b bytes rest h

cut_lines : (bytes : List ℕ) → (split bytes).whole ≡ true → lines_in bytes ≡ fed (cut bytes)
unfolding cut
cut_lines [] h = refl
cut_lines (b ∷ bytes) h = cut_step b bytes (cut_lines bytes) (b == 10) h

-- what stands behind such a text begins a line
front_behind : (b : ℕ) (ls more : List (List ℕ)) → Some_lines ls → with_front b (ls ++ more) ≡ with_front b ls ++ more
front_behind b [] more some = let odd : [] ≡ some.one ∷ some.more = some.is in cc
front_behind b (l ∷ ls) more some = refl

lines_some : (b : ℕ) (bytes : List ℕ) → Some_lines (lines_in (b ∷ bytes))
lines_some b bytes = go (b == 10) (lines_in bytes)
  where
    go : (x : Bool) (ls : List (List ℕ)) → Some_lines (if x then (10 ∷ []) ∷ ls else with_front b ls)
    go true ls = record { one = 10 ∷ []; more = ls; is = refl }
    go false [] = record { one = b ∷ []; more = []; is = refl }
    go false (l ∷ ls) = record { one = b ∷ l; more = ls; is = refl }

byte_behind : (b : ℕ) (bytes more : List ℕ) → ((split bytes).whole ≡ true → lines_in (bytes ++ more) ≡ lines_in bytes ++ lines_in more)
    → (with_byte b (split bytes).lines (split bytes).whole).whole ≡ true → with_front b (lines_in (bytes ++ more)) ≡ with_front b (lines_in bytes) ++ lines_in more
byte_behind b [] more rest h = absurd (not_whole b h)
byte_behind b (c ∷ bytes) more rest h =
    ap (with_front b) (rest (less_whole b (split (c ∷ bytes)).lines (split (c ∷ bytes)).whole h)) ∙ front_behind b (lines_in (c ∷ bytes)) (lines_in more) (lines_some c bytes)

behind_step : (b : ℕ) (bytes more : List ℕ) → ((split bytes).whole ≡ true → lines_in (bytes ++ more) ≡ lines_in bytes ++ lines_in more) → (x : Bool)
    → (if x then with_feed (split bytes).lines (split bytes).whole else with_byte b (split bytes).lines (split bytes).whole).whole ≡ true
    → (if x then (10 ∷ []) ∷ lines_in (bytes ++ more) else with_front b (lines_in (bytes ++ more)))
    ≡ (if x then (10 ∷ []) ∷ lines_in bytes else with_front b (lines_in bytes)) ++ lines_in more
behind_step b bytes more rest true h = ap (λ (ls : List (List ℕ)). (10 ∷ []) ∷ ls) (rest h)
behind_step b bytes more rest false h = byte_behind b bytes more rest h

lines_behind : (bytes more : List ℕ) → (split bytes).whole ≡ true → lines_in (bytes ++ more) ≡ lines_in bytes ++ lines_in more
lines_behind [] more h = refl
lines_behind (b ∷ bytes) more h = behind_step b bytes more (lines_behind bytes more) (b == 10) h

-- ---- headings
-- a line without its last byte
init : List ℕ → List ℕ
init [] = []
init (b ∷ []) = []
init (b ∷ c ∷ l) = b ∷ init (c ∷ l)

init_feed : (l : List ℕ) → init (feed l) ≡ l
unfolding init
init_feed [] = refl
init_feed (b ∷ []) = refl
init_feed (b ∷ c ∷ l) = ap (λ (t : List ℕ). b ∷ t) (init_feed (c ∷ l))

-- that byte
last : ℕ → List ℕ → ℕ
last d [] = d
last d (b ∷ l) = last b l

last_feed : (d : ℕ) (l : List ℕ) → last d (feed l) ≡ 10
unfolding last
last_feed d [] = refl
last_feed d (b ∷ l) = last_feed b l

or_cases : (a b : Bool) → (a || b) ≡ true → (a ≡ true) ⊎ (b ≡ true)
or_cases true b h = inl refl
or_cases false b h = inr h

is_text : (l text : List ℕ) → same_bytes l text ≡ true → l ≡ text
is_text l text h = (bytes_eq-Decides l text).0 h

-- a text that ends otherwise is none with a line feed behind it
no_end : (text : List ℕ) → ◌≡◌ {A = ℕ} 10 116 → ⊥
no_end text odd = omega (arith, odd)

-- a line with a line feed behind it is a heading where it is one of these
heading : (l : List ℕ) → is_heading (feed l) ≡ true → (l ≡ codes "ix 1 report") ⊎ (l ≡ codes "ix 2 report")
unfolding init last
heading l h =
    let a = same_bytes (feed l) (codes "ix 1 report\n") in
    let b = same_bytes (feed l) (codes "ix 2 report\n") in
    let c = same_bytes (feed l) (codes "ix 1 report") in
    let d = same_bytes (feed l) (codes "ix 2 report") in
    elim (or_cases (a || b || c) d h) [
      | inl h3 ↦ elim (or_cases (a || b) c h3) [
        | inl h2 ↦ elim (or_cases a b h2) [
          | inl is ↦ inl (sym (init_feed l) ∙ ap init (is_text (feed l) (codes "ix 1 report\n") is))
          | inr is ↦ inr (sym (init_feed l) ∙ ap init (is_text (feed l) (codes "ix 2 report\n") is))
        ]
        | inr is ↦ absurd (no_end (codes "ix 1 report") (sym (last_feed 0 l) ∙ ap (last 0) (is_text (feed l) (codes "ix 1 report") is)))
      ]
      | inr is ↦ absurd (no_end (codes "ix 2 report") (sym (last_feed 0 l) ∙ ap (last 0) (is_text (feed l) (codes "ix 2 report") is)))
    ]

-- ---- such a line is no line of a script behind line 1
or_none : (a b : Option ℕ) → option_or a b ≡ None → b ≡ None
or_none None b h = h
or_none (Some n) b h = cc

no_form : (before : List Line) (words : List (List ℕ)) → form_of (word_at words 0) ≡ None → command_fault before words ≡ None → ⊥
unfolding command_fault
no_form before words none h =
    let seven = or_none (words_fault words) (option_map_or (λ f. form_fault before f words) (form_of (word_at words 0)) (Some 7)) h in
    let odd : Some 7 ≡ None = rw none at seven in
    cc

form_one : form_of (word_at (words_of (codes "ix 1 report")) 0) ≡ None
unfolding words_of pieces is_closed form_of frame_form group_form plain_of on_path_of on_fd_of counted_of file_form process_form
form_one = refl

form_two : form_of (word_at (words_of (codes "ix 2 report")) 0) ≡ None
unfolding words_of pieces is_closed form_of frame_form group_form plain_of on_path_of on_fd_of counted_of file_form process_form
form_two = refl

heading_fault : (before : List Line) (text t : List ℕ) → is_empty before ≡ false → text ≡ t → is_skipped t ≡ false → is_policy_line t ≡ false
    → form_of (word_at (words_of t) 0) ≡ None → line_fault before text ≡ None → ⊥
unfolding line_fault body_fault
heading_fault before text t some is told plain none h =
    let body : body_fault before t ≡ None = or_none (text_fault t) (body_fault before t) (rw is at h) in
    let command : command_fault before (words_of t) ≡ None = rw (some, told, plain) at body in
    no_form before (words_of t) none command

no_heading : (before : List Line) (text : List ℕ) → is_empty before ≡ false → line_fault before text ≡ None → is_heading (feed text) ≡ false
unfolding is_policy_line
no_heading before text some h = go (is_heading (feed text)) refl
  where
    go : (x : Bool) → is_heading (feed text) ≡ x → x ≡ false
    go false is = refl
    go true is = elim (heading text is) [
      | inl one ↦ absurd (heading_fault before text _ some one refl refl form_one h)
      | inr two ↦ absurd (heading_fault before text _ some two refl refl form_two h)
    ]

-- the first of lines without faults has none, and neither has one of the others
or_next_none : (o : Option ℕ) (number : ℕ) (next : Option (ℕ × ℕ)) → or_next o number next ≡ None → (o ≡ None) × (next ≡ None)
or_next_none None number next h = (refl, h)
or_next_none (Some rule) number next h = cc

some_more : {A : Type 0} (xs : List A) (x : A) → is_empty (xs ++ x ∷ []) ≡ false
some_more [] x = refl
some_more (y ∷ xs) x = refl

-- lines are passed over on the way to the report
passed : (before : List Line) (ls more : List (List ℕ)) → is_empty before ≡ false → fault_from before ls ≡ None
    → (before_report (fed ls ++ more) ≡ fed ls ++ before_report more) × (from_report (fed ls ++ more) ≡ from_report more)
unfolding fault_from
passed before [] more some h = (refl, refl)
passed before (l ∷ ls) more some h =
    let parts = or_next_none (line_fault before l) (length before + 1) _ h in
    let after = before ++ unwrap_or (line_of (form_told before) l) line.Skipped ∷ [] in
    let rest = passed after ls more (some_more before (unwrap_or (line_of (form_told before) l) line.Skipped)) parts.1 in
    let other : is_heading (feed l) ≡ false = no_heading before l some parts.0 in (
      ap (λ (x : Bool). if x then [] else feed l ∷ before_report (fed ls ++ more)) other ∙ ap (λ (t : List (List ℕ)). feed l ∷ t) rest.0,
      ap (λ (x : Bool). if x then feed l ∷ fed ls ++ more else from_report (fed ls ++ more)) other ∙ rest.1,
    )

-- ---- the report
head_is : (form : Form) → (is_line (head_line form) ≡ true) × (is_heading (head_line form) ≡ true)
unfolding head_line
head_is One = (refl, refl)
head_is Two = (refl, refl)

headed : (l : List ℕ) (ls : List (List ℕ)) → is_heading l ≡ true → (before_report (l ∷ ls) ≡ []) × (from_report (l ∷ ls) ≡ l ∷ ls)
headed l ls is = rw is (refl, refl)

report_begins : (s : List Line) (history : List Event) → (rest : List ℕ) × (report_of s history ≡ head_line (form_told s) ++ rest)
unfolding report_of
report_begins s history =
    let first = opening_world (config_of s) in
    let entries = entries_text (form_told s) (lanes_of s) 1 first history in
    let closing = closing_text (form_told s) (run first 1 history) (length history) in
    (entries ++ closing, append_assoc (head_line (form_told s)) entries closing)

report_headed : (s : List Line) (history : List Event) → (before_report (lines_in (report_of s history)) ≡ []) × (from_report (lines_in (report_of s history)) ≡ lines_in (report_of s history))
report_headed s history =
    let head = head_line (form_told s) in
    let is = head_is (form_told s) in
    let begins = report_begins s history in
    let lines = ap lines_in begins.1 ∙ lines-line head begins.0 is.0 in
    subst (λ (ls : List (List ℕ)). (before_report ls ≡ []) × (from_report ls ≡ ls)) (sym lines) (headed head _ is.1)

-- ---- the parts
-- the lines behind line 1 have no fault
no_fault_behind : (bytes : List ℕ) (l : List ℕ) (ls : List (List ℕ)) → lines_of bytes ≡ l ∷ ls → fault_of bytes ≡ None
    → (first : Line) × (fault_from (first ∷ []) ls ≡ None)
unfolding fault_of fault_from
no_fault_behind bytes l ls lines h =
    let from : fault_from [] (lines_of bytes) ≡ None = by_length (nat_lt 16777216 (length bytes)) h in
    let parts = or_next_none (line_fault [] l) _ _ (rw lines at from) in
    (unwrap_or (line_of (form_told []) l) line.Skipped, parts.1)
  where
    by_length : (x : Bool) → (if x then Some (1, 1) else fault_from [] (lines_of bytes)) ≡ None → fault_from [] (lines_of bytes) ≡ None
    by_length true k = cc
    by_length false k = k

-- no bytes are no script
six : (o : Option ℕ) → option_or o (Some 6) ≡ None → ⊥
six None h = cc
six (Some n) h = cc

nothing_faults : fault_of [] ≡ None → ⊥
unfolding fault_of fault_from lines_of line_fault body_fault first_line_fault version_of
nothing_faults h =
    let parts = or_next_none (line_fault [] []) 1 None h in
    let body : body_fault [] [] ≡ None = or_none (text_fault []) (body_fault [] []) parts.0 in
    six _ body

two_parts : (bytes : List ℕ) (s : List Line) (history : List Event) → fault_of bytes ≡ None → (split bytes).whole ≡ true
    → (script_part (bytes ++ report_of s history) ≡ bytes) × (report_part (bytes ++ report_of s history) ≡ report_of s history)
unfolding script_part report_part lines_of
two_parts [] s history right whole = absurd (nothing_faults right)
two_parts (b ∷ rest) s history right whole =
    let bytes = b ∷ rest in
    let report = report_of s history in
    let some = cut_some b rest in
    let mine : lines_in bytes ≡ feed some.one ∷ fed some.more = cut_lines bytes whole ∙ ap fed some.is in
    let all : lines_in (bytes ++ report) ≡ feed some.one ∷ (fed some.more ++ lines_in report) =
    lines_behind bytes report whole ∙ ap (λ (ls : List (List ℕ)). ls ++ lines_in report) mine in
    let behind = no_fault_behind bytes some.one some.more some.is right in
    let over = passed (behind.0 ∷ []) some.more (lines_in report) refl behind.1 in
    let head = report_headed s history in
    let before : before_report (fed some.more ++ lines_in report) ≡ fed some.more = over.0 ∙ ap (λ (ls : List (List ℕ)). fed some.more ++ ls) head.0 ∙ append-nil (fed some.more) in (
      (λ i. joined (take 1 (all i)) ++ joined (before_report (drop 1 (all i))))
          ∙ ap (λ (ls : List (List ℕ)). (feed some.one ++ []) ++ joined ls) before
          ∙ ap (λ (l : List ℕ). l ++ joined (fed some.more)) (append-nil (feed some.one))
          ∙ ap joined (sym mine) ∙ joined_lines bytes,
      (λ i. joined (from_report (drop 1 (all i)))) ∙ ap joined (over.1 ∙ head.1) ∙ joined_lines report,
    )

-- ---- the answer
pub printed_is_yes : ScriptsNamed → PrintedIsGood → PrintedIsYes
unfolding text_for
printed_is_yes names good bytes s history is taken whole made few other =
    let all = bytes ++ report_of s history in
    let parts = two_parts bytes s history (without_fault bytes s is) whole in
    let read : script_of (script_part all) ≡ Some s = ap script_of parts.0 ∙ is in
    let found : found_in s (report_part all) ≡ Yes (length history) = ap (found_in s) parts.1 ∙ good s (names bytes s is) history made in
    sym (outcome_script command.Check all s other refl few read)
    ∙ sym (outcome_accepted command.Check s (report_part all) other (accepted command.Check s (report_part all) taken tt))
    ∙ ap (λ v. outcome.Whole (verdict_line v)) found
