use Rattle.std.proofs.{Common.{◌∙◌, sym, arith}, lemmas.Bool.{eq-eqb, ne_eqb}}
use Rattle.ix_script.proofs.texts.Spelling.{bytes_counted, no_spelling, quoted_counted, quoted_broken, quoted_done, quoted_early, quoted_past}
use Rattle.ix_script.proofs.payload.quoted.Goals as goal

pub returns-then-i-text : goal.returns-then-i-text
returns-then-i-text c =
    let whole = quoted_done _ _ _ _ _ c.bytes-test.true (sym c.ends.ensures ∙ c.if-ends.true) (eq-eqb _ _ (omega arith)) c.bytes.invariant.whole in
    λ most. record { bytes = c.bytes.invariant.front; meant = whole; spelled = whole; count = c.bytes.invariant.count }

pub returns-else-i-text : goal.returns-else-i-text
returns-else-i-text c =
    λ most. no_spelling _ _ (quoted_early _ _ _ _ _ c.bytes-test.true (sym c.ends.ensures ∙ c.if-ends.true) (ne_eqb _ _ (omega arith)) c.bytes.invariant.whole)

pub returns-in_default : goal.returns-in_default
returns-in_default c =
    λ most. no_spelling _ _ (quoted_broken _ _ _ _ _ c.bytes-test.true (sym c.ends.ensures ∙ c.if-ends.false)
    (sym c.after.ensures ∙ c.in_default.is) c.bytes.invariant.whole)

pub bytes-preserved : goal.bytes-preserved
bytes-preserved c = rw (bytes_counted c.from-count.result c.is_some.result c.in-Some.byte c.from-count.ensures c.is_some.ensures)
    (quoted_counted _ _ _ _ _ _ _ c.bytes-test.true (sym c.ends.ensures ∙ c.if-ends.false) (sym c.after.ensures ∙ c.in-Some.is) c.bytes.invariant)

pub returns : goal.returns
returns c =
    λ most. no_spelling _ _ (quoted_past _ _ _ _ _ c.bytes-test.false c.bytes.invariant.whole)
