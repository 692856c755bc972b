use Rattle.ix_label.proofs.Bits.{FirstFrom-bits}
use Rattle.ix_label.proofs.label.Label.first_from.Goals as goal

pub returns : goal.returns
returns c = rw (← c.self.view_is) (FirstFrom-bits _ _ _ c.first_bit.ensures)
