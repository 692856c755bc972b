use Rattle.std.proofs.Common.{◌∙◌, Some, ap}
use Rattle.ix_numbers.{specs.Marks.lowest, proofs.Tied.{lowest_vacant, changed}}
use Rattle.ix_inode.proofs.table.Table.take.Goals as goal

pub invariant_of-self-2 : goal.invariant_of-self-2
invariant_of-self-2 c = c.in_ok-n.ensures.taken ∙ changed _ _ _ (Some c.args.node) c.self.invariant

pub returns-in_err-n-clause-number : goal.returns-in_err-n-clause-number
returns-in_err-n-clause-number c = c.from_residual.ensures ∙ rw (← c.self.view_is) (c.in_err-n.ensures.number ∙ ap lowest c.self.invariant ∙ lowest_vacant c.self.inside.nodes.items)

pub returns-clause-number : goal.returns-clause-number
returns-clause-number c = rw (← c.self.view_is) (c.in_ok-n.ensures.number ∙ ap lowest c.self.invariant ∙ lowest_vacant c.self.inside.nodes.items)
