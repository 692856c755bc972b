-- The two forms of a label's text: which numbers it may have, and for which labels there is one.
use Rattle.std.specs.Prelude.{◌≡◌, ℕ, ◌+◌, ◌≤◌, Bool, true, List, codes}
use Rattle.ix_label.specs.declared.form.Form.{Form}
use Rattle.ix_label.specs.declared.form.Form.TheVariants.{One, Two}
use Rattle.ix_label.specs.Category.{Categories, has, all_below, leq}

-- the greatest number of a form
unfoldable pub greatest : Form → ℕ
greatest One = 255
greatest Two = 511

-- what `*` stands for: every number from 0 to the greatest
unfoldable pub all_of : Form → Categories
all_of form = all_below (greatest form + 1)

-- the same as one run, which is no spelling
unfoldable pub whole_run : Form → List ℕ
whole_run One = codes "0-255"
whole_run Two = codes "0-511"

-- whether a label is narrow: it has no number above 255
unfoldable pub narrow : Categories → Bool
narrow s = leq s (all_below 256)

-- a form has a spelling for the label: form One for each narrow label, form Two for each label
abbrev pub Fits : Form → Categories → Type 0
Fits One s = narrow s ≡ true
Fits Two s = Unit {0}

-- no category of the label is above the greatest number of the form
pub record IsWithin (form : Form) (s : Categories) : Type 0 where
  pub below : (q : ℕ) → has s q ≡ true → q ≤ greatest form
