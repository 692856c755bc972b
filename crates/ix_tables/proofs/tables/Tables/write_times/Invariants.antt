use Rattle.std.proofs.Common.{◌≡◌, ◌-◌, ◌≤◌}
use Rattle.ix_tables.proofs.Repeating.{behind}
use Rattle.ix_tables.proofs.tables.Tables.write_times.Given as goal

abbrev pub invariant-parts : goal.invariant-parts
invariant-parts l = record { kept : l.self ≡ behind l.fn.self l.n l.byte l.done; within : l.done ≤ l.times }

abbrev pub decreases-parts : goal.decreases-parts
decreases-parts l = l.times - l.done
