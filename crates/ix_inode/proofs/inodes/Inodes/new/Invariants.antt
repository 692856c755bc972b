use Rattle.ix_inode.specs.Volumes.{AreNew}
use Rattle.ix_inode.proofs.inodes.Inodes.new.Given as goal

-- the file systems so far are made
abbrev pub invariant-loop-k : goal.invariant-loop-k
invariant-loop-k l = AreNew l.fss l.k l.first l.volumes.items
