use Rattle.std.proofs.Common.{◌≡◌, None, replicate}
use Rattle.ix_pipe.proofs.pipes.Pipes.new.Given as goal

-- no pipe stands at the numbers so far
abbrev pub invariant-loop-n : goal.invariant-loop-n
invariant-loop-n l = l.slots.items ≡ replicate l._n None
