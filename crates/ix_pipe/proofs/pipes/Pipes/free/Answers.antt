use Rattle.std.{proofs.Common.{◌∙◌, ap, None, List, Bool}, specs.List.slice_get}
use Rattle.ix_numbers.proofs.Tied.{stands_taken, changed}
use Rattle.ix_pipe.proofs.pipes.Pipes.free.Goals as goal

pub give-requires : goal.give-requires
give-requires c = ap (λ (marks : List Bool). slice_get marks c.args.pipe) c.self.invariant ∙ stands_taken c.self.inside.slots.items c.args.pipe (rw c.self.view_is c.requires)

pub invariant_of-self : goal.invariant_of-self
invariant_of-self c = rw c.end.ensures (c.give.ensures ∙ changed c.self.inside.slots.items _ c.args.pipe None c.self.invariant)
