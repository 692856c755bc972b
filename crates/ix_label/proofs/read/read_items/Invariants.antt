use Rattle.std.proofs.Common.{◌-◌, length}
use Rattle.ix_label.proofs.Items.{IsReadTo}
use Rattle.ix_label.proofs.read.read_items.Given as goal

abbrev pub invariant-items : goal.invariant-items
invariant-items l = IsReadTo l.form l.text l.at l.last l.label

abbrev pub decreases-items : goal.decreases-items
decreases-items l = length l.text - l.at
