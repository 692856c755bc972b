use Rattle.std.{proofs.Common.map, specs.Vec.vec_items}
use Rattle.ix_script.proofs.reader.Scheduling.{Made}
use Rattle.ix_script.proofs.schedule.Schedule.of.Given as goal

abbrev pub invariant-lines : goal.invariant-lines
invariant-lines l = Made l.lanes l.lines.said (map vec_items l.stretches.items) l.seats.items l.begun l.index
