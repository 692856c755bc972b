use Rattle.std.proofs.Common.{List, ℕ, None, sym, subst}
use Rattle.ix_host.{specs.run.Outlet.StandsAt, proofs.piecewise.Stands.stands_front}
use Rattle.ix_host.proofs.streams.outlet.told.Goals as goal

pub returns-in-Ok-clause-stands : goal.returns-in-Ok-clause-stands
returns-in-Ok-clause-stands g c first left rest text before stands fits =
    c.write_full.ensures first rest text before
    (subst (λ (w : List ℕ). StandsAt None first (g.K.Sink.taken c.args.sink.now) w text before (g.K.Sink.faults c.args.sink.now)) (sym (rw c.in-Ok.is at fits)) stands)

pub returns-in-Err-clause-stands : goal.returns-in-Err-clause-stands
returns-in-Err-clause-stands g c first left rest text before stands fits =
    stands_front first (g.K.Sink.taken c.args.sink.now) before (g.K.Sink.faults c.args.sink.now) left text stands
