-- The labels that a form has a spelling for are those within its greatest number.
use Rattle.std.proofs.{Common.{◌≡◌, ℕ, ◌<◌, true, true≢false, sym, ◌∙◌, arith, inl, inr}, lemmas.Bool.cases_lt}
use Rattle.ix_label.{specs.{declared.form.Form.{Form, TheVariants.{One, Two}}, Category.{Categories, IsLabel, has, bottom, all_below}}, proofs.Numbers.greatest-below}
use Rattle.ix_label.specs.{Members.{has-bottom, has-all_below, has-all_below_past, has-leq, leq-has}, Forms.{greatest, all_of, narrow, Fits, IsWithin}}

-- a number of a set of all numbers below n is below n
low_of_all : (n q : ℕ) → has (all_below n) q ≡ true → q < n
low_of_all n q one = elim (cases_lt q n) [
  | inl low ↦ low
  | inr high ↦ absurd (true≢false (sym one ∙ has-all_below_past n q high))
]

pub within-fits : (form : Form) (s : Categories) → IsWithin form s → Fits form s
unfolding narrow greatest
within-fits One s h = has-leq s _ (λ q one. let low = h.below q one in has-all_below _ q (omega arith))
within-fits Two s h = tt

pub fits-within : (form : Form) (s : Categories) → IsLabel s → Fits form s → IsWithin form s
unfolding narrow greatest
fits-within One s label h = record { below = λ q one. let low = low_of_all _ q (leq-has s _ h q one) in omega arith }
fits-within Two s label h = record { below = λ q one. let low = label.below q one in omega arith }

pub within-label : (form : Form) (s : Categories) → IsWithin form s → IsLabel s
within-label form s h = record { below = λ q one. omega (arith, h.below q one, greatest-below form) }

pub within-bottom : (form : Form) → IsWithin form bottom
within-bottom form = record { below = λ q one. absurd (true≢false (sym one ∙ has-bottom q)) }

pub within-all_of : (form : Form) → IsWithin form (all_of form)
unfolding all_of
within-all_of form = record { below = λ q one. let low = low_of_all _ q one in omega arith }
