use Rattle.ix_label.proofs.Bits.{members-IsLabel}
use Rattle.ix_label.proofs.label.Label.is_label.Goals as goal

pub returns : goal.returns
returns c = rw (← c.self.view_is) (members-IsLabel _ c.self.invariant)
