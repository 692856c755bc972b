use Rattle.ix_pipe.proofs.Changed.{pipe_changed}
use Rattle.ix_pipe.proofs.pipes.Pipes.claim.Goals as goal

pub invariant_of-self : goal.invariant_of-self
invariant_of-self c = pipe_changed _ _ _ _ _ _ c.self.invariant c.index_mut.ensures.value c.claim.ensures.claimed
