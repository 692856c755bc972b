use Rattle.std.proofs.Common.{subst}
use Rattle.ix_gate.specs.{History.KeepsEnded, Seat.SeatState}
use Rattle.ix_gate.proofs.seat.Seat.number.Goals as goal

pub returns-clause-ended : goal.returns-clause-ended
returns-clause-ended g c = subst (λ (k : SeatState g.row.M-Base.Denot g.row.M-Entry.Denot). KeepsEnded g.M.Machine.seat k.ended k.seen) c.self.view_is c.self.invariant.agrees.1
