use Rattle.std.{proofs.Common.{◌≡◌, ℕ, Bool, List, nat_eq, sym, ◌∙◌, ap}, specs.Cmp.Lexicographic.pointwise}
use Rattle.ix_label.specs.{declared.form.Form.{Form, TheVariants.{One, Two}}, Forms.whole_run, Faults.is_text}
use Rattle.ix_label.proofs.form.Form.is_whole_run.Goals as goal

-- what `==` with a constant text tells
tested : (text slice : List ℕ) (is : Bool) (form kind : Form) → is ≡ pointwise nat_eq text slice → slice ≡ whole_run kind → form ≡ kind → is ≡ is_text text (whole_run form)
tested text slice is form kind e s t = e ∙ ap (pointwise nat_eq text) (s ∙ ap whole_run (sym t))

pub returns-in-One : goal.returns-in-One
unfolding whole_run
returns-in-One c = tested _ _ _ c.args.self One c.eq.ensures c.as_slice.ensures c.in-One.is

pub returns-in-Two : goal.returns-in-Two
unfolding whole_run
returns-in-Two c = tested _ _ _ c.args.self Two c.eq-in-Two.ensures c.as_slice-in-Two.ensures c.in-Two.is
