-- What is true of all spellings of a form.
use Rattle.std.specs.Prelude.{◌≡◌, List, ℕ, None, ◌↔◌}
use Rattle.ix_label.specs.declared.form.Form.{Form}
use Rattle.ix_label.specs.Category.{Categories, IsLabel}
use Rattle.ix_label.specs.Forms.{Fits}
use Rattle.ix_label.specs.Spelling.{spelling}
use Rattle.ix_label.specs.Faults.{fault_of}

-- no two labels share a spelling
abbrev pub OneLabelEach : Form → Type 0
OneLabelEach form = (s t : Categories) → IsLabel s → IsLabel t → spelling form s ≡ spelling form t → s ≡ t

-- the text is the spelling of a label: in form One of a narrow one
abbrev pub IsSpelling : Form → List ℕ → Type 0
IsSpelling form text = (s : Categories) × IsLabel s × Fits form s × (text ≡ spelling form s)

-- a text has no fault exactly where it is the spelling of a label
abbrev pub SpelledOrFaulty : Form → List ℕ → Type 0
SpelledOrFaulty form text = (fault_of form text ≡ None) ↔ IsSpelling form text
