-- The fault and the script of an input.
use Rattle.std.proofs.{Common.{◌≡◌, ℕ, ◌<◌, ◌≤◌, List, [], length, Some, None, refl, sym, ap, ◌∙◌, subst}, lemmas.Bool.{lt-ltb, le-ltb}}
use Rattle.ix_script.specs.{texts.{Lines.lines_of, Cutting.{words_of, is_policy_line}}, lines.Said.version_of, scripts.Scripts.{form_in, lines_said, script_of}}
use Rattle.ix_script.specs.{lines.Rules.{is_too_long, is_unprintable, has_empty_word, has_open_quote}, reader.Readers.HasCause, declared.{fail.ReadFail.ReadFail, line.Line.Line}}
use Rattle.ix_script.specs.lines.Faults.{text_fault, words_fault, first_line_fault, body_fault, line_fault, fault_from, fault_of}

pub too_long : (bytes : List ℕ) → 16777216 < length bytes → fault_of bytes ≡ Some (1, 1)
unfolding fault_of
too_long bytes h = rw (lt-ltb) refl

pub by_lines : (bytes : List ℕ) → length bytes ≤ 16777216 → fault_of bytes ≡ fault_from [] (lines_of bytes)
unfolding fault_of
by_lines bytes h = rw (le-ltb) refl

no_byte : fault_of [] ≡ Some (1, 6)
unfolding fault_of lines_of fault_from line_fault text_fault is_too_long is_unprintable body_fault first_line_fault words_fault words_of has_empty_word has_open_quote is_policy_line version_of
no_byte = refl

pub no_bytes : (bytes : List ℕ) → bytes ≡ [] → fault_of bytes ≡ Some (1, 6)
no_bytes bytes h = ap fault_of h ∙ no_byte

pub has_cause : (e : ReadFail) (bytes : List ℕ) → length bytes ≤ 16777216 → HasCause e (fault_from [] (lines_of bytes)) → HasCause e (fault_of bytes)
has_cause e bytes few h = subst (λ f. HasCause e f) (sym (by_lines _ few)) h

pub script_is : (bytes : List ℕ) (lines : List Line) → length bytes ≤ 16777216 → fault_from [] (lines_of bytes) ≡ None
    → lines_said (form_in (lines_of bytes)) (lines_of bytes) ≡ Some lines → script_of bytes ≡ Some lines
unfolding script_of
script_is bytes lines few h said = rw (by_lines bytes few ∙ h) said
