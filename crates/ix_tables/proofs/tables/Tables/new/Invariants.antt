use Rattle.std.proofs.Common.{◌≡◌}
use Rattle.ix_tables.specs.{Parts.parts_of, Opening.opening_after}
use Rattle.ix_tables.proofs.tables.Tables.new.Given as goal

-- the tables are those after the lines so far
abbrev pub invariant-loop-i : goal.invariant-loop-i
invariant-loop-i l = l.tables ≡ parts_of (opening_after l.i l.config)
