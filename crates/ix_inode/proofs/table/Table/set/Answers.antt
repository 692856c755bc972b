use Rattle.std.proofs.Common.{◌∙◌, sym}
use Rattle.ix_numbers.proofs.Tied.{refilled}
use Rattle.ix_inode.proofs.table.Table.set.Goals as goal

pub invariant_of-self : goal.invariant_of-self
invariant_of-self c = c.self.invariant ∙ sym (refilled _ c.args.n c.args.node (rw c.self.view_is c.requires))
