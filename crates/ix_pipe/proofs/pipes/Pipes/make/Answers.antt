use Rattle.std.proofs.Common.{◌∙◌, ap, arith, Some}
use Rattle.ix_numbers.{specs.Marks.lowest, proofs.Tied.{lowest_vacant, given_vacant, changed}}
use Rattle.ix_pipe.specs.Pipe.{new_pipe}
use Rattle.ix_pipe.proofs.pipes.Pipes.make.Goals as goal

pub returns-in_err-pipe-clause-number : goal.returns-in_err-pipe-clause-number
returns-in_err-pipe-clause-number c = c.from_residual.ensures ∙ rw (← c.self.view_is) (c.in_err-pipe.ensures.number ∙ ap lowest c.self.invariant ∙ lowest_vacant c.self.inside.slots.items)

pub index_mut-requires : goal.index_mut-requires
index_mut-requires c = omega (arith, (given_vacant _ _ _ c.self.invariant c.in_ok-pipe.ensures.number).0, c.self.inside.slots.ok)

pub invariant_of-self-2 : goal.invariant_of-self-2
invariant_of-self-2 c = rw c.begin.ensures (c.in_ok-pipe.ensures.taken ∙ changed c.self.inside.slots.items _ c.in_ok-pipe.pipe (Some new_pipe) c.self.invariant)

pub returns-clause-number : goal.returns-clause-number
returns-clause-number c = rw (← c.self.view_is) (c.in_ok-pipe.ensures.number ∙ ap lowest c.self.invariant ∙ lowest_vacant c.self.inside.slots.items)
