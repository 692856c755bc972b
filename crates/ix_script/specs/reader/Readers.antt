-- What a reader of the code tells of what it was given.
use Rattle.std.specs.Prelude.{◌≡◌, ℕ, ◌==◌, Bool, false, ◌||◌, List, [], ◌∷◌, Option, Some, None, is_none, Result, Ok, Err}
use Rattle.std.specs.Option.{option_map_or}
use Rattle.ix_model.specs.opening.Valid.{is_within}
use Rattle.ix_text.specs.Bytes.{is_empty}
use Rattle.ix_script.specs.texts.Cutting.{word_at, is_skipped, is_policy_line}
use Rattle.ix_script.specs.lines.Forms.{form_of, places}
use Rattle.ix_script.specs.lines.Said.{said}
use Rattle.ix_script.specs.lines.Roles.{role_of}
use Rattle.ix_script.specs.scripts.Packed.{FrontOf, with_line}
use Rattle.ix_script.specs.scripts.Need.{cost_of_line}
use Rattle.ix_script.specs.declared.role.Role.TheVariants as role
use Rattle.ix_script.specs.declared.form.Form.{Form}
use Rattle.std.proofs.Common.{option_map}
use Rattle.ix_script.specs.lines.Kinds.{Place, places_fault}
use Rattle.ix_script.specs.lines.Before.{form_told, lane_now}
use Rattle.ix_script.specs.lines.Faults.{said_fault, command_fault, line_fault}
use Rattle.ix_script.specs.lines.Rules.{first_of, is_outside, object_above, object_is_misplaced, object_exceeds_limits}
use Rattle.ix_model.specs.declared.config.ObjSpec.{ObjSpec}
use Rattle.ix_script.specs.lines.Said.{line_of}
use Rattle.ix_script.specs.declared.fail.ReadFail.{ReadFail}
use Rattle.ix_script.specs.declared.fail.ReadFail.TheVariants as fail
use Rattle.ix_script.specs.declared.line.Line.{Line}
use Rattle.ix_script.specs.declared.fail.Rule.{Rule}

-- it is the first rule that is broken
abbrev pub Refuses : Rule → Option ℕ → Type 0
Refuses rule fault = fault ≡ Some rule.0

-- it is let pass where no rule is broken
abbrev pub Finds : {X : Type 0} → Result X Rule → Option ℕ → Type 0
Finds (Ok x) fault = fault ≡ None
Finds (Err e) fault = Refuses e fault

-- the first of the rules that words break at these places, if any
abbrev pub IsFault : Option Rule → List Place → Type 0
IsFault broken places = places_fault places ≡ option_map (λ r. r.0) broken

-- a line that isn't cut into words: the first one, a skipped one and the policy
abbrev pub is_whole : List Line → List ℕ → Bool
is_whole before text = is_empty before || is_skipped text || is_policy_line text

-- a byte of an input whose lines are printable
abbrev pub in_printable_lines : ℕ → Bool
in_printable_lines b = is_within 32 126 b || b == 10

-- the words are a line of that form, and break no rule but those on what a line says
pub record FormRight (before : List Line) (f : Form) (words : List (List ℕ)) : Type 0 where
  pub first : form_of (word_at words 0) ≡ Some f
  pub inside : is_outside before f ≡ false
  pub faultless : places_fault (places (form_told before) f words) ≡ None
  pub fault : command_fault before words ≡ option_map_or (said_fault before) (said (form_told before) f words) None

-- the first of the rules on what a line says that the object of a line breaks: other rules speak of other lines
abbrev pub object_fault : List Line → ObjSpec → Option ℕ
object_fault before o = first_of ((22, object_above before o) ∷ (23, object_is_misplaced before o) ∷ (24, object_exceeds_limits before o) ∷ [])

abbrev pub TellsForm : List Line → Result Form Rule → List (List ℕ) → Type 0
TellsForm before (Ok f) words = FormRight before f words
TellsForm before (Err e) words = Refuses e (command_fault before words)

-- a line that is read breaks no rule and says this, and it fits the lines before by the rules on what it says
pub record LineRight (before : List Line) (l : Line) (fault : Option ℕ) (meaning : Option Line) : Type 0 where
  pub faultless : fault ≡ None
  pub meant : meaning ≡ Some l
  pub fits : said_fault before l ≡ None

-- the words of a line that stands in a body have that form and break no rule by themselves: the line says what they say, and breaks none but the last rules
pub record IsFormed (before : List Line) (text : List ℕ) (f : Form) (words : List (List ℕ)) : Type 0 where
  pub faultless : places_fault (places (form_told before) f words) ≡ None
  pub meant : line_of (form_told before) text ≡ said (form_told before) f words
  pub fault : line_fault before text ≡ option_map_or (said_fault before) (said (form_told before) f words) None

-- a command that gives no name and is no server's: it stands in a lane, the text says it, it costs so much, and breaks none but the last rules
pub record IsPlain (before : List Line) (text : List ℕ) (cost : ℕ) : Type 0 where
  pub in_lane : is_none (lane_now before) ≡ false
  pub line : Line
  pub meant : line_of (form_told before) text ≡ Some line
  pub fault : line_fault before text ≡ said_fault before line
  pub is_command : role_of line ≡ role.Command
  pub costs : cost_of_line line ≡ cost

-- a line more, which the text says
pub record LineMore (before after : FrontOf) (text : List ℕ) : Type 0 where
  pub line : Line
  pub right : LineRight before.said line (line_fault before.said text) (line_of (form_told before.said) text)
  pub added : after ≡ with_line before line text

abbrev pub Tells : List Line → Result Line Rule → Option ℕ → Option Line → Type 0
Tells before (Ok l) fault meaning = LineRight before l fault meaning
Tells before (Err e) fault meaning = Refuses e fault

-- the fault that is told is that of the input
abbrev pub HasCause : ReadFail → Option (ℕ × ℕ) → Type 0
HasCause (fail.Fault f) fault = fault ≡ Some (f.line, f.rule)
HasCause fail.NoMemory fault = Unit {0}
