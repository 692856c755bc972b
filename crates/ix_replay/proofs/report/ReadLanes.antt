-- The lanes of a script that is read have names as scripts have them.
use Rattle.std.proofs.Common.{◌≡◌, ℕ, Bool, true, false, List, [], ◌∷◌, ◌++◌, Option, Some, None, option_map, fold, if◌then◌else◌, refl, sym, ap, ◌∙◌, subst}
use Rattle.std.{specs.List.list_all, proofs.lemmas.{Option.{none-some, same_Some}, List.Folds.list_all-append}}
use Rattle.ix_script.specs.{lines.Before.{form_told, is_known, lanes_after, lanes_of}, lines.Faults.line_fault, lines.Forms.{form_of, frame_form}}
use Rattle.ix_script.specs.{lines.Said.{line_of, version_of}, scripts.{Canonical.{line_text, line_words}, Laws.LineStays, Scripts.script_of}}
use Rattle.ix_script.specs.{texts.Cutting.{is_policy_line, pieces, word_at, words_of}, declared.line.Line.Line}
use Rattle.ix_text.specs.Names.{is_script_name, name_of}
use Rattle.ix_script.specs.declared.line.Line.TheVariants as line
use Rattle.ix_script.proofs.lines.EachLine.{Along, along}
use Rattle.ix_label.specs.declared.form.Form.{Form}

-- ---- what is there, where something was made of it
mapped : {A B : Type 0} (f : A → B) (o : Option A) (y : B) → option_map f o ≡ Some y → (x : A) × (o ≡ Some x) × (f x ≡ y)
mapped f None y h = absurd (none-some y h)
mapped f (Some x) y h = (x, refl, same_Some (f x) y h)

kept : {A : Type 0} (b : Bool) (o : Option A) (x : A) → (if b then o else None) ≡ Some x → (b ≡ true) × (o ≡ Some x)
kept true o x h = (refl, h)
kept false o x h = absurd (none-some x h)

-- ---- a line
-- a lane's name is one
abbrev Named : Line → Type 0
Named (line.Lane name) = is_script_name name ≡ true
Named _ = Unit {0}

is_name : (word name : List ℕ) → name_of word ≡ Some name → is_script_name name ≡ true
unfolding name_of
is_name word name h = let k = kept (is_script_name word) (Some word) name h in ap is_script_name (sym (same_Some word name k.1)) ∙ k.0

-- the text of a lane says the lane of its second word
lane_said : (labels : Form) (name : List ℕ) → line_of labels (line_text labels (line.Lane name)) ≡ option_map (λ x. line.Lane x) (name_of (word_at (words_of (line_text labels (line.Lane name))) 1))
unfolding line_of version_of line_words is_policy_line words_of pieces form_of frame_form
lane_said labels name = refl

lane_named : (labels : Form) (name : List ℕ) → line_of labels (line_text labels (line.Lane name)) ≡ Some (line.Lane name) → Named (line.Lane name)
lane_named labels name h =
    let word = word_at (words_of (line_text labels (line.Lane name))) 1 in
    let said = mapped (λ x. line.Lane x) (name_of word) (line.Lane name) (sym (lane_said labels name) ∙ h) in
    subst Named said.2 (is_name word said.0 said.1)

-- a line that breaks no rule is what its text says
line_named : LineStays → (before : List Line) (text : List ℕ) (l : Line) → line_of (form_told before) text ≡ Some l → line_fault before text ≡ None → Named l
line_named stays before text (line.Lane name) h sound = lane_named (form_told before) name (stays before text (line.Lane name) h sound).0
line_named stays before text _ h sound = tt

-- ---- a script
abbrev AlongNamed : List Line → List Line → Type 0
AlongNamed before lines = Along (λ before l. Named l) before lines

one_more : (known : Bool) (name : List ℕ) (names : List (List ℕ)) → is_script_name name ≡ true → list_all is_script_name names ≡ true
    → list_all is_script_name (if known then names else names ++ name ∷ []) ≡ true
one_more true name names h all = all
one_more false name names h all = list_all-append is_script_name names (name ∷ []) ∙ rw (all, h) refl

after_named : (names : List (List ℕ)) (l : Line) → Named l → list_all is_script_name names ≡ true → list_all is_script_name (lanes_after names l) ≡ true
after_named names (line.Lane name) h all = one_more (is_known name names) name names h all
after_named names _ h all = all

from_named : (names : List (List ℕ)) (before lines : List Line) → AlongNamed before lines → list_all is_script_name names ≡ true → list_all is_script_name (fold lanes_after names lines) ≡ true
from_named names before [] h all = all
from_named names before (l ∷ lines) h all = from_named (lanes_after names l) (before ++ l ∷ []) lines h.1 (after_named names l h.0 all)

pub scripts_named : LineStays → (bytes : List ℕ) (s : List Line) → script_of bytes ≡ Some s → list_all is_script_name (lanes_of s) ≡ true
unfolding lanes_of
scripts_named stays bytes s h = from_named [] [] s (along (λ before l. Named l) (line_named stays) bytes s h) refl
