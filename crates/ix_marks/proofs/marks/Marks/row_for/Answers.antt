use Rattle.std.proofs.Common.{sym, arith}
use Rattle.ix_marks.proofs.Changed.{take_spots, take_kept}
use Rattle.ix_marks.proofs.marks.Marks.row_for.Goals as goal

pub invariant_of-self : goal.invariant_of-self
invariant_of-self c = rw c.empty.ensures (take_kept _ _ _ _ _ _ c.self.invariant _ c.self.view_is c.args.pid.0 c.take-row.result (omega (
  arith,
  c.take-row.ensures.below,
  c.self.invariant.enough,
)) c.take-row.ensures.length)

pub returns-clause-spots : goal.returns-clause-spots
returns-clause-spots c =
    rw c.empty.ensures (take_spots c.self.inside.owners c.take-row.new.self _ _ _ c.self.inside.raised c.self.invariant _ c.self.view_is c.args.pid.0
    c.take-row.result (omega (arith, c.take-row.ensures.below, c.self.invariant.enough)) (sym c.in_default.ensures) c.take-row.ensures.unused
    c.take-row.ensures.rows)
