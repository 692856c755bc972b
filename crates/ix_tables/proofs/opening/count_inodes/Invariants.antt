use Rattle.ix_tables.proofs.OpeningNames.{AreCounted}
use Rattle.ix_tables.proofs.opening.count_inodes.Given as goal

-- the inodes of the file systems so far are counted
abbrev pub invariant-loop-spec : goal.invariant-loop-spec
invariant-loop-spec l = AreCounted l.fss l.spec-index l.inodes
