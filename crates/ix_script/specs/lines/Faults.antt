-- The first rule that a line breaks, and the fault of an input.
use Rattle.std.specs.Prelude.{ℕ, ◌+◌, nat_lt, not, List, [], ◌∷◌, ◌++◌, length, Option, Some, None, is_none, if◌then◌else◌, unwrap_or}
use Rattle.std.specs.Option.{option_or, option_map_or}
use Rattle.ix_script.specs.texts.Lines.{lines_of}
use Rattle.ix_script.specs.texts.Cutting.{words_of, word_at, is_skipped, is_policy_line, policy_text}
use Rattle.ix_text.specs.Bytes.{is_empty}
use Rattle.ix_script.specs.lines.Kinds.{places_fault}
use Rattle.ix_script.specs.lines.Forms.{form_of, places, has_right_count}
use Rattle.ix_script.specs.lines.Before.{form_told, has_policy, in_body}
use Rattle.ix_script.specs.lines.Rules.{first_of, is_too_long, is_unprintable, has_empty_word, has_open_quote, is_late, is_outside, is_given_twice}
use Rattle.ix_script.specs.lines.Rules.{names_unknown, is_above, is_misplaced, exceeds_limits, is_out_of_order, is_one_too_many, lacks_policy}
use Rattle.ix_script.specs.lines.Said.{said, version_of, line_of}
use Rattle.ix_script.specs.declared.form.Form.{Form}
use Rattle.ix_script.specs.declared.line.Line.{Line}
use Rattle.ix_script.specs.declared.line.Line.TheVariants as line

-- ---- a line
-- the rules on the bytes of a line
unfoldable pub text_fault : List ℕ → Option ℕ
text_fault text = first_of ((2, is_too_long text) ∷ (3, is_unprintable text) ∷ [])

-- the rules on its words
unfoldable pub words_fault : List (List ℕ) → Option ℕ
words_fault words = first_of ((4, has_empty_word words) ∷ (5, has_open_quote words) ∷ [])

-- the rules on the place of a form, and on the number of its words
unfoldable pub stand_fault : List Line → Form → List (List ℕ) → Option ℕ
stand_fault before f words = first_of ((8, is_late before f) ∷ (9, is_outside before f) ∷ (10, not (has_right_count f words)) ∷ [])

-- the rules on the names of a line
unfoldable pub names_fault : List Line → Form → List (List ℕ) → Option ℕ
names_fault before f words = first_of ((20, is_given_twice before f words) ∷ (21, names_unknown before f words) ∷ [])

-- the rules on what a line says
unfoldable pub said_fault : List Line → Line → Option ℕ
said_fault before l =
    first_of ((22, is_above before l) ∷ (23, is_misplaced before l) ∷ (24, exceeds_limits before l) ∷ (25, is_out_of_order before l)
    ∷ (26, is_one_too_many before l) ∷ (28, lacks_policy before l) ∷ [])

-- a line of a form: rules 8 to 10, 11 to 19, 20 and 21, and those from 22 on
unfoldable pub form_fault : List Line → Form → List (List ℕ) → Option ℕ
form_fault before f words =
    option_or (stand_fault before f words)
    (option_or (places_fault (places (form_told before) f words))
    (option_or (names_fault before f words) (option_map_or (said_fault before) (said (form_told before) f words) None)))

-- a line that is cut into words: rules 4 and 5, then rule 7 where its first word is that of no form
unfoldable pub command_fault : List Line → List (List ℕ) → Option ℕ
command_fault before words =
    option_or (words_fault words) (option_map_or (λ f. form_fault before f words) (form_of (word_at words 0)) (Some 7))

-- the policy: it stands in the header, has a text, and stands once
unfoldable pub policy_fault : List Line → List ℕ → Option ℕ
policy_fault before text = first_of ((8, in_body before) ∷ (10, is_empty (policy_text text)) ∷ (20, has_policy before) ∷ [])

-- line 1: rules 4 and 5, then rule 6
unfoldable pub first_line_fault : List ℕ → Option ℕ
first_line_fault text =
    option_or (if is_policy_line text then None else words_fault (words_of text)) (first_of ((6, is_none (version_of text)) ∷ []))

-- a line, by where it stands and how it begins
unfoldable pub body_fault : List Line → List ℕ → Option ℕ
body_fault before text =
    if is_empty before then first_line_fault text
    else if is_skipped text then None
    else if is_policy_line text then policy_fault before text
    else command_fault before (words_of text)

-- the first rule that a line breaks, with these before it
unfoldable pub line_fault : List Line → List ℕ → Option ℕ
line_fault before text = option_or (text_fault text) (body_fault before text)

-- ---- an input
-- that rule on that line; where there is none the fault of what follows
abbrev pub or_next : Option ℕ → ℕ → Option (ℕ × ℕ) → Option (ℕ × ℕ)
or_next (Some rule) number next = Some (number, rule)
or_next None number next = next

-- the fault of the first line that has one, with these lines before, and that line's number
unfoldable pub fault_from : List Line → List (List ℕ) → Option (ℕ × ℕ)
fault_from before [] = None
fault_from before (text ∷ texts) = or_next (line_fault before text) (length before + 1) (fault_from (before ++ unwrap_or (line_of (form_told before) text) line.Skipped ∷ []) texts)

-- the line and the rule: rule 1 stands before all
unfoldable pub fault_of : List ℕ → Option (ℕ × ℕ)
fault_of bytes = if nat_lt 16777216 (length bytes) then Some (1, 1) else fault_from [] (lines_of bytes)
