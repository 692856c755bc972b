use Rattle.ix_model.specs.world.Paths.{path_of}
use Rattle.ix_tables.proofs.OpeningLines.{IsOnWay}
use Rattle.ix_tables.proofs.tables.Tables.directory_of.Given as goal

-- what is left of the path leads from here where the whole leads from the root
abbrev pub invariant-loop-i : goal.invariant-loop-i
invariant-loop-i l = IsOnWay l.self.objects (path_of l.path).names l.i l.dir
