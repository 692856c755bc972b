-- The laws of the canonical text.
use Rattle.std.specs.Prelude.{◌≡◌, ℕ, ◌+◌, ◌≤◌, List, All, length, true, Some, None}
use Rattle.std.specs.List.{list_all}
use Rattle.ix_model.specs.history.Spelled.{ConfigFits}
use Rattle.ix_model.specs.opening.Valid.{is_within}
use Rattle.ix_script.specs.lines.Before.{form_told}
use Rattle.ix_script.specs.lines.Said.{payload_within, line_of}
use Rattle.ix_script.specs.lines.Faults.{line_fault}
use Rattle.ix_script.specs.lines.Fits.{LineFits}
use Rattle.ix_script.specs.scripts.Scripts.{config_of, script_of}
use Rattle.ix_script.specs.texts.Spellings.{payload_text}
use Rattle.ix_script.specs.scripts.Canonical.{line_text, canonical}
use Rattle.ix_script.specs.declared.line.Line.{Line}

-- where the canonical text of a script that was read isn't too long, reading it gives that script
abbrev pub ReadsBack : Type 0
ReadsBack = (bytes : List ℕ) (lines : List Line) → script_of bytes ≡ Some lines → length (canonical lines) ≤ 16777216 → script_of (canonical lines) ≡ Some lines

-- it has at most one byte more than what was read
abbrev pub OneByteMore : Type 0
OneByteMore = (bytes : List ℕ) (lines : List Line) → script_of bytes ≡ Some lines → length (canonical lines) ≤ length bytes + 1

-- the text of a line that was read says that line, has no fault where the line had none, and is no longer
abbrev pub LineStays : Type 0
LineStays =
    (before : List Line) (text : List ℕ) (l : Line) → line_of (form_told before) text ≡ Some l → line_fault before text ≡ None
    → (line_of (form_told before) (line_text (form_told before) l) ≡ Some l) × (line_fault before (line_text (form_told before) l) ≡ None)
    × (length (line_text (form_told before) l) ≤ length text)

-- the labels of a script that was read fit its form, and so do those of its config
pub record KeepsToForm (s : List Line) : Type 0 where
  pub lines : All (λ (l : Line). LineFits (form_told s) l) s
  pub config : ConfigFits (form_told s) (config_of s)

abbrev pub ScriptsFit : Type 0
ScriptsFit = (bytes : List ℕ) (lines : List Line) → script_of bytes ≡ Some lines → KeepsToForm lines

-- no word of a script that spells a payload is shorter than the payload's shortest spelling
abbrev pub NoShorterPayload : Type 0
NoShorterPayload = (word bytes : List ℕ) → list_all (is_within 32 126) word ≡ true → payload_within 1048576 word ≡ Some bytes → length (payload_text bytes) ≤ length word
