use Rattle.std.proofs.Common.{◌≤◌, Err, length, sym, ap, subst, ◌∙◌, arith}
use Rattle.ix_image.{specs.{Image.longest, Fitting.names_fit, Reading.breaks, Meant.tree_made}, proofs.{Counting.rest_whole, Steps.{too_long, misfit}, Whole.fields_take}}
use Rattle.ix_image.proofs.reading.tree_in.Goals as goal

pub returns-then-bytes-gt-LONGEST : goal.returns-then-bytes-gt-LONGEST
returns-then-bytes-gt-LONGEST c =
    too_long _ c.if-bytes-gt-LONGEST.true ∙ ap (λ f. Err f) (sym (c.here.ensures ∙ ap (breaks 9) (rest_whole c.args.bytes.now 671088640)))

pub returns-then-not-branch : goal.returns-then-not-branch
returns-then-not-branch c =
    misfit _ (tree_made c.in_ok-fss.fss.items c.in_ok-fss.nodes.items) c.if-bytes-gt-LONGEST.false c.in_ok-fss.ensures.read (sym (c.in_ok-names_fit.ensures
    ∙ (λ j. names_fit (tree_made (c.deref.ensures.value j) (c.deref-2.ensures.value j)))) ∙ c.if-not-branch.true) ∙ ap (λ f. Err f) (sym c.at_end.ensures)

pub invariant_of-result : goal.invariant_of-result
invariant_of-result c =
    record {
      tree = c.in_ok-fss.ensures.tree;
      names = sym (c.in_ok-names_fit.ensures ∙ (λ j. names_fit (tree_made (c.deref.ensures.value j) (c.deref-2.ensures.value j)))) ∙ c.if-not-branch.false;
      short = subst (λ b. length b ≤ longest) (fields_take _ (tree_made c.in_ok-fss.fss.items c.in_ok-fss.nodes.items) (λ i. omega (arith, c.type_inv.bytes i))
          c.in_ok-fss.ensures.read).1 c.if-bytes-gt-LONGEST.false;
    }
