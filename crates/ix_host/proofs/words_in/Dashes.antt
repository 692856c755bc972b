-- A word of more than a hyphen that begins with one spells no label.
use Rattle.std.proofs.Common.{◌≡◌, ℕ, List, ◌∷◌, None, sym, ap, ◌∙◌}
use Rattle.ix_label.specs.declared.form.Form.TheVariants as form
use Rattle.ix_label.{specs.Faults.{fault_here, fault_of, first_fault, is_bad, is_due, number_fault}, proofs.Spelled.spelling_faultless}
use Rattle.ix_text.{specs.Labels.label_in, proofs.AllLabels.label_missing}

no_number : (c : ℕ) (word : List ℕ) → fault_of form.Two (45 ∷ c ∷ word) ≡ None → ⊥
unfolding fault_of first_fault fault_here is_due number_fault is_bad
no_number c word none = cc

pub dash_first : (c : ℕ) (word : List ℕ) → label_in form.Two (45 ∷ c ∷ word) ≡ None
dash_first c word = label_missing form.Two (45 ∷ c ∷ word)
    (λ l small is. no_number c word (ap (fault_of form.Two) (sym is) ∙ spelling_faultless form.Two l small))
