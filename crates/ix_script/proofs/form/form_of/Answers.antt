use Rattle.std.proofs.Common.{arith, refl, sym, ◌∙◌}
use Rattle.ix_script.specs.lines.Forms.{plain_of, on_path_of, on_fd_of, counted_of, frame_form, group_form, file_form, process_form, form_of}
use Rattle.ix_script.proofs.lines.FormTable.{before, found, goes_on, not_any, of_others}
use Rattle.ix_script.proofs.form.form_of.Goals as goal

pub entries-init : goal.entries-init
unfolding form_of frame_form group_form plain_of on_path_of on_fd_of counted_of file_form process_form
entries-init c = record {
  right = search refl;
  none = λ k.
      let more = k.1.1.1.1.1.1.1.1 in
      let later = more.1.1.1.1.1.1.1.1 in
      let next = later.1.1.1.1.1.1.1.1 in
      let others = next.1.1.1.1.1.1.1.1 in
      let last = others.1.1.1.1.1.1.1.1 in
      rw (
        k.0,
        k.1.0,
        k.1.1.0,
        k.1.1.1.0,
        k.1.1.1.1.0,
        k.1.1.1.1.1.0,
        k.1.1.1.1.1.1.0,
        k.1.1.1.1.1.1.1.0,
        more.0,
        more.1.0,
        more.1.1.0,
        more.1.1.1.0,
        more.1.1.1.1.0,
        more.1.1.1.1.1.0,
        more.1.1.1.1.1.1.0,
        more.1.1.1.1.1.1.1.0,
        later.0,
        later.1.0,
        later.1.1.0,
        later.1.1.1.0,
        later.1.1.1.1.0,
        later.1.1.1.1.1.0,
        later.1.1.1.1.1.1.0,
        later.1.1.1.1.1.1.1.0,
        next.0,
        next.1.0,
        next.1.1.0,
        next.1.1.1.0,
        next.1.1.1.1.0,
        next.1.1.1.1.1.0,
        next.1.1.1.1.1.1.0,
        next.1.1.1.1.1.1.1.0,
        others.0,
        others.1.0,
        others.1.1.0,
        others.1.1.1.0,
        others.1.1.1.1.0,
        others.1.1.1.1.1.0,
        others.1.1.1.1.1.1.0,
        others.1.1.1.1.1.1.1.0,
        last.0,
        last.1.0,
        last.1.1.0,
        last.1.1.1.0,
        last.1.1.1.1.0,
      ) refl;
  so_far = of_others _ _ _ (rw c.letter.ensures.place (before c.args.word.now));
}

pub returns-then-is : goal.returns-then-is
returns-then-is c = found _ _ _ _ c.entries.invariant (omega (arith, c.entries-test.true)) (sym c.is.ensures ∙ c.if-is.true)

pub entries-preserved : goal.entries-preserved
entries-preserved c = goes_on _ _ _ _ c.entries.invariant (omega (arith, c.entries-test.true)) (sym c.is.ensures ∙ c.if-is.false)

pub returns : goal.returns
returns c = not_any _ _ _ c.entries.invariant (omega (arith, c.entries-test.false, c.entries.auto.i-end))
