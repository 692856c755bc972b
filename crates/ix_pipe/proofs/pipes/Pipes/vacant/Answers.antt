use Rattle.std.proofs.Common.{◌∙◌, ap}
use Rattle.ix_numbers.{specs.Marks.lowest, proofs.Tied.lowest_vacant}
use Rattle.ix_pipe.proofs.pipes.Pipes.vacant.Goals as goal

pub returns : goal.returns
returns c = rw (← c.self.view_is) (c.first.ensures ∙ ap lowest c.self.invariant ∙ lowest_vacant c.self.inside.slots.items)
