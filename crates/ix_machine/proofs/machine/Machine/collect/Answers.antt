use Rattle.ix_machine.proofs.Ends.{collected_joined}
use Rattle.ix_machine.proofs.machine.Machine.collect.Goals as goal

pub invariant_of-self : goal.invariant_of-self
invariant_of-self c = collected_joined _ _ _ _ _ _ c.self.view_is c.requires c.collect.ensures c.self.invariant
