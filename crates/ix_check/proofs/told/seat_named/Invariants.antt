use Rattle.std.proofs.Common.{◌≡◌, drop, []}
use Rattle.ix_script.specs.lines.Before.{lanes_of}
use Rattle.ix_judging.specs.Names.{told_from}
use Rattle.ix_check.proofs.told.seat_named.Given as goal

abbrev pub invariant-loop-seat : goal.invariant-loop-seat
invariant-loop-seat l = told_from l.seat [] (drop l.seat (lanes_of l.script)) l.text ≡ told_from 0 [] (lanes_of l.script) l.text
