use Rattle.ix_tables.proofs.OpeningNames.{AreNamed}
use Rattle.ix_tables.proofs.opening.name_roots.Given as goal

-- the further file systems so far have their names
abbrev pub invariant-loop-spec : goal.invariant-loop-spec
invariant-loop-spec l = AreNamed l.entries l.inodes l.fss l.spec-items l.spec-index l.root l.names
