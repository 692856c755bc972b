use Rattle.std.proofs.Common.{◌<◌, sym, subst}
use Rattle.ix_gate.specs.{Gate.GateState, Seat.StandsFor}
use Rattle.ix_kernel.specs.Seen.{KSeatState}
use Rattle.ix_kernel.proofs.kernel.Kernel.close.Goals as goal

pub close-core-requires-clause-all : goal.close-core-requires-clause-all
close-core-requires-clause-all c κs = λ n few.
    subst (λ (s : KSeatState). StandsFor s n) (sym c.seat.view_is) (c.requires.all n (subst (λ (g : GateState). n < g.seats) c.self.view_is few))
