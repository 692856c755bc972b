use Rattle.std.proofs.Common.{◌≤◌, length, take}
use Rattle.ix_inode.specs.Volumes.{all_nodes}
use Rattle.ix_inode.proofs.spot.spot_of.Given as goal

-- it is past the inodes of the file systems so far
abbrev pub invariant-loop-k : goal.invariant-loop-k
invariant-loop-k l = length (all_nodes (take l.k l.volumes)) ≤ l.object
