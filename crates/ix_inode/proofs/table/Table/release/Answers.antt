use Rattle.std.{proofs.Common.{◌∙◌, List, Bool, None, ap}, specs.List.slice_get}
use Rattle.ix_numbers.proofs.Tied.{stands_taken, changed}
use Rattle.ix_inode.proofs.table.Table.release.Goals as goal

pub give-requires : goal.give-requires
give-requires c = ap (λ (marks : List Bool). slice_get marks c.args.n) c.self.invariant ∙ stands_taken _ c.args.n (rw c.self.view_is c.requires)

pub invariant_of-self : goal.invariant_of-self
invariant_of-self c = c.give.ensures ∙ changed _ _ c.args.n None c.self.invariant
