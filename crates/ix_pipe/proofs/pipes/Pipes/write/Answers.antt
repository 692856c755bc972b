use Rattle.ix_pipe.proofs.Changed.{pipe_changed_if}
use Rattle.ix_pipe.proofs.pipes.Pipes.write.Goals as goal

pub invariant_of-self : goal.invariant_of-self
invariant_of-self c = pipe_changed_if _ _ _ _ _ _ c.self.invariant c.index_mut.ensures.value _ c.append.ensures.bytes
