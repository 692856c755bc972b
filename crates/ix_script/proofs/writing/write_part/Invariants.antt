use Rattle.std.proofs.Common.{◌≡◌, ◌++◌}
use Rattle.ix_script.specs.scripts.Canonical.{canonical_from}
use Rattle.ix_script.proofs.writing.write_part.Given as goal

abbrev pub invariant-lines : goal.invariant-lines
invariant-lines l = l.out.items ++ canonical_from l.script l.index ≡ l.fn.out.items ++ canonical_from l.script l.fn.first
