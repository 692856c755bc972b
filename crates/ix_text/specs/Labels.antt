-- The label that a word spells.
use Rattle.std.specs.Prelude.{ℕ, zero, suc, ◌+◌, Bool, List, [], ◌∷◌, ◌++◌, map, find, Option}
use Rattle.ix_label.specs.declared.form.Form.{Form}
use Rattle.ix_label.specs.Forms.{greatest}
use Rattle.ix_label.specs.Category.{Categories, bottom, with}
use Rattle.ix_label.specs.Spelling.{spelling}
use Rattle.ix_model.specs.world.Naming.{same_bytes}

-- every label of categories below n
unfoldable pub labels_below : ℕ → List Categories
labels_below zero = bottom ∷ []
labels_below (suc n) = labels_below n ++ map (λ l. with l n) (labels_below n)

-- whether the label has that spelling in the form
abbrev pub is_spelled : Form → List ℕ → Categories → Bool
is_spelled form word l = same_bytes (spelling form l) word

-- among all labels of the form, the one of that spelling; it is said so, and never searched
unfoldable pub label_in : Form → List ℕ → Option Categories
label_in form word = find (is_spelled form word) (labels_below (greatest form + 1))
