use Rattle.ix_label.proofs.Bits.{words_narrow}
use Rattle.ix_label.proofs.label.Label.is_narrow.Goals as goal

pub returns : goal.returns
returns c = rw (← c.self.view_is) (words_narrow _ c.self.invariant)
