use Rattle.std.{proofs.{Common.{List, ℕ, length, get_or, Some, sym, ap, ◌∙◌, subst, arith}, lemmas.Option.slice_get_past}, specs.List.slice_get}
use Rattle.ix_label.specs.declared.form.Form.{Form}
use Rattle.ix_script.specs.{lines.Before.form_told, scripts.Packed.{FrontOf, IsLine, begin_at, between, held, line_in}}
use Rattle.ix_script.proofs.reader.Packing.{length-held, line_at}
use Rattle.ix_script.proofs.packed.Lines.text_at.Goals as goal

pub returns-then-i-ends : goal.returns-then-i-ends
returns-then-i-ends c =
    let text : List ℕ = c.self.inside.text.now in
    let ends : List ℕ = c.self.inside.ends.items in
    ap (λ (f : FrontOf). slice_get f.said c.args.i) (sym c.self.view_is)
    ∙ slice_get_past (held c.self.inside.form 0 text ends) c.args.i (omega (
      arith,
      length-held c.self.inside.form 0 text ends,
      ap length c.as_slice-ends.ensures.value,
      c.if-i-ends.true,
    ))

pub slice_bounds-result-count : goal.slice_bounds-result-count
slice_bounds-result-count c =
    let at = line_at c.self.inside.form 0 c.self.inside.text.now c.self.inside.ends.items c.args.i c.self.invariant.0.0 (omega (arith, ap length c.as_slice-ends.ensures.value, c.if-i-ends.false)) in
    rw (c.begin-begin.ensures, c.as_slice-ends.ensures.value) at.low

pub slice_bounds-result-start : goal.slice_bounds-result-start
slice_bounds-result-start c =
    let at = line_at c.self.inside.form 0 c.self.inside.text.now c.self.inside.ends.items c.args.i c.self.invariant.0.0 (omega (arith, ap length c.as_slice-ends.ensures.value, c.if-i-ends.false)) in
    rw (c.begin-begin.ensures, c.as_slice-ends.ensures.value) at.low

pub slice_bounds-result-end : goal.slice_bounds-result-end
slice_bounds-result-end c =
    let at = line_at c.self.inside.form 0 c.self.inside.text.now c.self.inside.ends.items c.args.i c.self.invariant.0.0 (omega (arith, ap length c.as_slice-ends.ensures.value, c.if-i-ends.false)) in
    rw c.as_slice-ends.ensures.value at.high

pub returns : goal.returns
returns c =
    let text : List ℕ = c.self.inside.text.now in
    let ends : List ℕ = c.self.inside.ends.items in
    let labels : Form = c.self.inside.form in
    let told = c.self.invariant.0.2 ∙ ap (λ (f : FrontOf). form_told f.said) c.self.view_is in
    let at = line_at labels 0 text ends c.args.i c.self.invariant.0.0 (omega (arith, ap length c.as_slice-ends.ensures.value, c.if-i-ends.false)) in
    let part : List ℕ = between (begin_at 0 ends c.args.i) (get_or ends c.args.i 0) text in
    rw (c.begin-begin.ensures, c.as_slice-ends.ensures.value) (
      subst (λ (f : Form). IsLine f part) told at.line,
      ap (λ (f : FrontOf). slice_get f.said c.args.i) (sym c.self.view_is) ∙ at.is ∙ ap (λ (f : Form). Some (line_in f part)) told,
    )
