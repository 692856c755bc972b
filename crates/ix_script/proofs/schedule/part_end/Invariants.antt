use Rattle.std.proofs.Common.{◌≡◌, ◌+◌, drop}
use Rattle.ix_script.specs.scripts.Schedule.{part_len}
use Rattle.ix_script.proofs.schedule.part_end.Given as goal

abbrev pub invariant-lines : goal.invariant-lines
invariant-lines l = l.first + part_len (drop l.first l.lines.said) ≡ l.index + part_len (drop l.index l.lines.said)
