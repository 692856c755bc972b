use Rattle.std.proofs.Common.{◌∙◌}
use Rattle.ix_machine.proofs.Moved.{moved}
use Rattle.ix_machine.proofs.machine.Machine.filed.Goals as goal

pub invariant_of-self : goal.invariant_of-self
invariant_of-self g c =
    moved _ _ _ _ _ _ _ _ _ _ (c.self.view_is ∙ c.requires.1.0) c.self.invariant c.call-reply.ensures.parts c.call-reply.ensures.step.world c.put.ensures
