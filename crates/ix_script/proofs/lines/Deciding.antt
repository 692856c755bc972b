-- Which rules look at a line, by where it stands and how it begins.
use Rattle.std.proofs.Common.{◌≡◌, ◌≢◌, ℕ, zero, suc, ◌<◌, ◌≤◌, ◌==◌, true, false, true≢false, List, [], ◌∷◌, length, drop, Option, Some, None, Result, Ok}
use Rattle.std.proofs.Common.{codes, refl, sym, ap, ◌∙◌, subst, arith, inl, inr}
use Rattle.std.{specs.{Cmp.Lexicographic.same_text, Option.{is_none, ok_or}}, proofs.lemmas.{Bool.ne_eqb, List.drop_all, Option.{same_Some, none-some}}}
use Rattle.ix_label.specs.declared.form.Form.{Form, TheVariants.{One, Two}}
use Rattle.ix_script.{specs.lines.{Before.{form_told, in_body, has_policy}, Rules.{has_empty_word, has_open_quote}}, proofs.{lines.Faultless.one_kept, reader.Told.neither}}
use Rattle.ix_script.specs.{lines.Said.{said, version_of, line_of}, reader.Readers.{LineRight, Tells}, declared.{fail.Rule.Rule, line.Line.Line}}
use Rattle.ix_script.specs.texts.Cutting.{pieces, words_of, word_at, is_closed, is_skipped, is_policy_line, policy_text}
use Rattle.ix_text.{specs.Bytes.is_empty, proofs.Tests.bool_cases}
use Rattle.ix_script.specs.lines.Forms.{plain_of, on_path_of, on_fd_of, counted_of, frame_form, group_form, file_form, process_form, form_of}
use Rattle.ix_script.specs.lines.Faults.{text_fault, line_fault, words_fault, said_fault, command_fault, policy_fault, first_line_fault, body_fault}
use Rattle.ix_script.specs.declared.form.Form as of_words
use Rattle.ix_script.specs.declared.line.Line.TheVariants as line

pub skipped_fits : (before : List Line) → said_fault before line.Skipped ≡ None
unfolding said_fault
skipped_fits before = refl

pub version_fits : (before : List Line) (form : Form) → said_fault before (line.Version form) ≡ None
unfolding said_fault
version_fits before form = refl

pub policy_fits : (before : List Line) (text : List ℕ) → said_fault before (line.Policy text) ≡ None
unfolding said_fault
policy_fits before text = refl

pub some_lines : {A : Type 0} (lines : List A) (n : ℕ) → n ≡ length lines → n ≢ 0 → is_empty lines ≡ false
some_lines [] n h ne = absurd (ne h)
some_lines (l ∷ lines) n h ne = refl

pub begun_some : (lines : List Line) → in_body lines ≡ true → is_empty lines ≡ false
unfolding in_body
begun_some [] h = absurd (true≢false (sym h))
begun_some (l ∷ lines) h = refl

pub none_there : {A : Type 0} (n : ℕ) (lines : List A) → n ≡ length lines → (n == 0) ≡ is_empty lines
none_there n [] h = rw h refl
none_there n (l ∷ lines) h = ne_eqb n 0 (λ e. let k = sym h ∙ e in absurd (omega arith))

more_than : (n : ℕ) (text : List ℕ) → n < length text → is_empty (drop n text) ≡ false
more_than n [] h = absurd (omega arith)
more_than zero (b ∷ text) h = refl
more_than (suc n) (b ∷ text) h = more_than n _ (omega arith)

-- ---- the first line
abbrev pub version_text : Form → List ℕ
version_text One = codes "ix 1"
version_text Two = codes "ix 2"

-- only that text tells that form
pub version_is : (text : List ℕ) (form : Form) → version_of text ≡ Some form → text ≡ version_text form
unfolding version_of
version_is text form h = elim (bool_cases _) [
  | inl t ↦
      let is : Some One ≡ Some form = rw t at h in
      subst (λ f. text ≡ version_text f) (same_Some One form is) (same_text _ _ (sym t))
  | inr f ↦ elim (bool_cases _) [
    | inl t ↦
        let is : Some Two ≡ Some form = rw (f, t) at h in
        subst (λ f. text ≡ version_text f) (same_Some Two form is) (same_text _ _ (sym t))
    | inr g ↦ let none : ◌≡◌ {A = Option Form} None (Some form) = rw (f, g) at h in cc
  ]
]

first_is : (form : Form) → LineRight [] (line.Version form) (first_line_fault (version_text form)) (line_of One (version_text form))
unfolding first_line_fault line_of version_of is_policy_line words_fault has_empty_word has_open_quote words_of pieces is_closed
first_is One = record { faultless = refl; meant = refl; fits = version_fits [] _ }
first_is Two = record { faultless = refl; meant = refl; fits = version_fits [] _ }

pub first_right : (text : List ℕ) (form : Form) → version_of text ≡ Some form → LineRight [] (line.Version form) (first_line_fault text) (line_of One text)
first_right text form h = subst (λ t. LineRight [] (line.Version form) (first_line_fault t) (line_of One t)) (sym (version_is _ _ h)) (first_is form)

some_form : (o : Option Form) → is_none o ≡ false → (form : Form) × (o ≡ Some form)
some_form None h = absurd (true≢false h)
some_form (Some form) h = (form, refl)

-- what is there, where no error stands for its lack
pub some_told : {A E : Type 0} (o : Option A) (e : E) (x : A) → ok_or o e ≡ Ok x → o ≡ Some x
some_told None e x h = cc
some_told (Some y) e x h = cc

-- a first line without a fault tells a form
pub first_version : (text : List ℕ) → first_line_fault text ≡ None → (form : Form) × (version_of text ≡ Some form)
unfolding first_line_fault
first_version text h =
    let p = neither _ _ h in
    some_form _ (one_kept 6 _ [] p.1).0

pub first_faultless : (text : List ℕ) → line_fault [] text ≡ None → first_line_fault text ≡ None
unfolding line_fault body_fault
first_faultless text h = (neither _ _ h).1

-- what the first line says is the same in both forms
pub version_said : (labels : Form) (text : List ℕ) (form : Form) → version_of text ≡ Some form → line_of labels text ≡ Some (line.Version form)
unfolding line_of is_policy_line version_of
version_said labels text form h = subst (λ t. line_of labels t ≡ Some (line.Version form)) (sym (version_is text _ h)) (said_so _)
  where
    said_so : (f : Form) → line_of labels (version_text f) ≡ Some (line.Version f)
    said_so One = refl
    said_so Two = refl

-- ---- lines that are skipped, and the policy
pub skipped_right : (before : List Line) (text : List ℕ) → is_empty before ≡ false → is_skipped text ≡ true → LineRight before line.Skipped (body_fault before text) (line_of (form_told before) text)
unfolding body_fault line_of
skipped_right before text h k = record { faultless = rw (h, k) refl; meant = rw k refl; fits = skipped_fits _ }

pub policy_stands : (before : List Line) (text : List ℕ) → is_empty before ≡ false → is_skipped text ≡ false → is_policy_line text ≡ true → body_fault before text ≡ policy_fault before text
unfolding body_fault
policy_stands before text h k p = rw (h, k, p) refl

pub policy_late : (before : List Line) (text : List ℕ) → in_body before ≡ true → policy_fault before text ≡ Some 8
unfolding policy_fault
policy_late before text late = rw late refl

pub policy_bare : (before : List Line) (text : List ℕ) → in_body before ≡ false → length text ≤ 7 → policy_fault before text ≡ Some 10
unfolding policy_fault
policy_bare before text early few = rw (early, ap is_empty (drop_all 7 text few)) refl

pub policy_again : (before : List Line) (text : List ℕ) → in_body before ≡ false → 7 < length text → has_policy before ≡ true → policy_fault before text ≡ Some 20
unfolding policy_fault
policy_again before text early some again = rw (early, more_than, again) refl

pub policy_read : (before : List Line) (text bytes : List ℕ) → in_body before ≡ false → 7 < length text → has_policy before ≡ false → bytes ≡ policy_text text
    → LineRight before (line.Policy bytes) (policy_fault before text) (Some (line.Policy (policy_text text)))
unfolding policy_fault
policy_read before text bytes early some once e =
    record { faultless = rw (early, more_than, once) refl; meant = ap (λ t. Some (line.Policy t)) (sym e); fits = policy_fits _ _ }

told_as : (before : List Line) (r : Result Line Rule) (f g : Option ℕ) (m n : Option Line) → g ≡ f → n ≡ m → Tells before r f m → Tells before r g n
told_as before r f g m n e d h = subst (λ x. Tells before r g x) (sym d) (subst (λ x. Tells before r x m) (sym e) h)

pub policy_right : (before : List Line) (text : List ℕ) (r : Result Line Rule) → is_empty before ≡ false → is_skipped text ≡ false → is_policy_line text ≡ true
    → Tells before r (policy_fault before text) (Some (line.Policy (policy_text text))) → Tells before r (body_fault before text) (line_of (form_told before) text)
unfolding body_fault line_of
policy_right before text r h k p t = told_as _ r _ _ _ _ (rw (h, k, p) refl) (rw (k, p) refl) t

-- ---- other lines: `ix 1` and `ix 2` begin as no form does
ix_is_unknown : (before : List Line) (form : Form) → command_fault before (words_of (version_text form)) ≡ Some 7
unfolding command_fault words_fault has_empty_word has_open_quote words_of pieces is_closed form_of frame_form group_form plain_of on_path_of on_fd_of counted_of file_form process_form
ix_is_unknown before One = refl
ix_is_unknown before Two = refl

pub not_ix : (before : List Line) (text : List ℕ) → command_fault before (words_of text) ≡ None → version_of text ≡ None
not_ix before text h = go _ refl
  where
    go : (o : Option Form) → version_of text ≡ o → o ≡ None
    go None is = refl
    go (Some form) is =
        let f = ap (λ x. command_fault before (words_of x)) (version_is _ _ is) ∙ ix_is_unknown _ _ in
        absurd (none-some 7 (sym h ∙ f))

-- ---- the fault of a line, by its text and by its words
pub whole_fault : (before : List Line) (text : List ℕ) → text_fault text ≡ None → line_fault before text ≡ body_fault before text
unfolding line_fault
whole_fault before text h = rw h refl

pub text_broken : (before : List Line) (text : List ℕ) (n : ℕ) → text_fault text ≡ Some n → line_fault before text ≡ Some n
unfolding line_fault
text_broken before text n h = rw h refl

pub by_words : (before : List Line) (text : List ℕ) → text_fault text ≡ None → is_empty before ≡ false → is_skipped text ≡ false
    → is_policy_line text ≡ false → line_fault before text ≡ command_fault before (words_of text)
unfolding line_fault body_fault
by_words before text h some k p = rw (h, some, k, p) refl

no_version_word : (form : Form) → form_of (word_at (words_of (version_text form)) 0) ≡ None
unfolding words_of pieces is_closed form_of frame_form group_form plain_of on_path_of on_fd_of counted_of file_form process_form
no_version_word One = refl
no_version_word Two = refl

pub no_version : (text : List ℕ) (f : of_words.Form) → form_of (word_at (words_of text) 0) ≡ Some f → version_of text ≡ None
no_version text f h = go _ refl
  where
    go : (o : Option Form) → version_of text ≡ o → o ≡ None
    go None is = refl
    go (Some form) is = absurd (none-some f (sym (no_version_word _) ∙ ap (λ x. form_of (word_at (words_of x) 0)) (sym (version_is _ _ is)) ∙ h))

pub said_is : (labels : Form) (text : List ℕ) (f : of_words.Form) → is_skipped text ≡ false → is_policy_line text ≡ false → form_of
    (word_at (words_of text) 0) ≡ Some f → line_of labels text ≡ said labels f (words_of text)
unfolding line_of
said_is labels text f k p first = rw (k, p, no_version text f first, first) refl

pub said_by_form : (labels : Form) (text : List ℕ) (f : of_words.Form) (l : Line) → is_skipped text ≡ false → is_policy_line text ≡ false
    → form_of (word_at (words_of text) 0) ≡ Some f → said labels f (words_of text) ≡ Some l → line_of labels text ≡ Some l
said_by_form labels text f l k p first h = said_is _ _ f k p first ∙ h
