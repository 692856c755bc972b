use Rattle.std.proofs.Common.{◌∙◌}
use Rattle.ix_label.proofs.Bits.{words_same}
use Rattle.ix_label.proofs.label.Label.equals.Goals as goal

pub returns : goal.returns
returns c = rw (← c.self.view_is, ← c.other.view_is) (c.eq.ensures ∙ words_same _ _ c.self.invariant c.other.invariant)
