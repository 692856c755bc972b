use Rattle.std.proofs.Common.{◌∙◌, sym}
use Rattle.ix_script.proofs.texts.Pieces.{closed_here, closed_next, never_closed}
use Rattle.ix_script.proofs.words.is_closed.Goals as goal

pub returns-then-closes : goal.returns-then-closes
returns-then-closes c = closed_here _ _ _ c.bytes-test.true (sym c.closes.ensures ∙ c.if-closes.true) ∙ c.bytes.invariant

pub bytes-preserved : goal.bytes-preserved
bytes-preserved c = rw c.after-at.ensures (closed_next _ _ _ c.bytes-test.true (sym c.closes.ensures ∙ c.if-closes.false) ∙ c.bytes.invariant)

pub returns : goal.returns
returns c = sym (never_closed _ _ _ c.bytes-test.false) ∙ c.bytes.invariant
