-- Lines that are held as their texts.
use Rattle.std.specs.Prelude.{◌≡◌, ℕ, zero, suc, ◌+◌, ◌-◌, ◌≤◌, false, List, [], ◌∷◌, ◌++◌, length, take, drop, map, Some, None, unwrap_or}
use Rattle.ix_label.specs.declared.form.Form as spelled
use Rattle.ix_script.specs.texts.Cutting.{word_at}
use Rattle.ix_text.specs.Bytes.{is_empty}
use Rattle.ix_script.specs.lines.Before.{form_told}
use Rattle.ix_script.specs.lines.Kinds.{places_fault}
use Rattle.ix_script.specs.lines.Forms.{form_of, places}
use Rattle.ix_script.specs.lines.Said.{line_of}
use Rattle.ix_script.specs.lines.Faults.{line_fault}
use Rattle.ix_script.specs.lines.Roles.{role_of}
use Rattle.ix_script.specs.scripts.Need.{need}
use Rattle.ix_script.specs.declared.form.Form.{Form}
use Rattle.ix_script.specs.declared.line.Line.{Line}
use Rattle.ix_script.specs.declared.line.Line.TheVariants as line
use Rattle.ix_script.specs.declared.role.Role.{Role}

-- what a text says, whose labels are spelled in that form
abbrev pub line_in : spelled.Form → List ℕ → Line
line_in labels text = unwrap_or (line_of labels text) line.Skipped

-- it says something, and breaks no rule where some lines stand before it, which tell that form
pub record IsLine (labels : spelled.Form) (text : List ℕ) : Type 0 where
  pub said : line_of labels text ≡ Some (line_in labels text)
  pub before : List Line
  pub told : is_empty before ≡ false → form_told before ≡ labels
  pub faultless : line_fault before text ≡ None

-- the first word is that of a form, and no word breaks a rule by itself
pub record IsSaid (labels : spelled.Form) (words : List (List ℕ)) : Type 0 where
  pub form : Form
  pub first : form_of (word_at words 0) ≡ Some form
  pub faultless : places_fault (places labels form words) ≡ None

-- the text from one place to another
abbrev pub between : ℕ → ℕ → List ℕ → List ℕ
between from end text = take (end - from) (drop from text)

-- what the texts say that end at these places; the first begins at `from`, and each other behind a line feed
abbrev pub held : spelled.Form → ℕ → List ℕ → List ℕ → List Line
held labels from text [] = []
held labels from text (end ∷ ends) = line_in labels (between from end text) ∷ held labels (suc end) text ends

-- where the text of a line begins
abbrev pub begin_at : ℕ → List ℕ → ℕ → ℕ
begin_at from ends zero = from
begin_at from [] (suc i) = from
begin_at from (end ∷ ends) (suc i) = begin_at (suc end) ends i

-- they follow one another within the text, and each is a line
abbrev pub AreLines : spelled.Form → ℕ → List ℕ → List ℕ → Type 0
AreLines labels from text [] = Unit {0}
AreLines labels from text (end ∷ ends) = (from ≤ end) × (end ≤ length text) × IsLine labels (between from end text) × AreLines labels (suc end) text ends

-- beside the lines stand their roles, and what they cost together
pub record AreSummed (lines : List Line) (roles : List Role) (cost : ℕ) : Type 0 where
  pub by_role : roles ≡ map role_of lines
  pub total : cost ≡ need lines

-- the marks of the lines at the front of a text: where each ends, what it is for, and what all cost
abbrev pub AreMarked : spelled.Form → List ℕ → List ℕ → List Role → ℕ → Type 0
AreMarked labels text ends roles cost = AreLines labels 0 text ends × AreSummed (held labels 0 text ends) roles cost × (labels ≡ form_told (held labels 0 text ends))

-- a text, the lines at its front that were read, and where the next begins
pub record FrontOf : Type 0 where
  pub text : List ℕ
  pub said : List Line
  pub at : ℕ

-- before any line
abbrev pub front_of : List ℕ → FrontOf
front_of text = record { text = text; said = []; at = 0 }

-- with a line more, which that text of it says
abbrev pub with_line : FrontOf → Line → List ℕ → FrontOf
with_line f line text = record { text = f.text; said = f.said ++ line ∷ []; at = f.at + length text + 1 }

-- it stands there where the next line begins
pub record IsNext (f : FrontOf) (text : List ℕ) : Type 0 where
  pub within : f.at + length text ≤ length f.text
  pub here : between f.at (f.at + length text) f.text ≡ text
