use Rattle.std.proofs.Common.{◌≡◌, None, replicate}
use Rattle.ix_inode.proofs.table.Table.new.Given as goal

-- nothing stands at the numbers so far
abbrev pub invariant-loop-n : goal.invariant-loop-n
invariant-loop-n l = l.nodes.items ≡ replicate l._n None
