use Rattle.std.proofs.Common.{◌++◌, List, ℕ, None, sym, subst}
use Rattle.ix_host.{specs.run.Outlet.StandsAt, proofs.piecewise.Stands.{stands_failed, stands_written}}
use Rattle.ix_host.proofs.streams.outlet.write_full.Goals as goal

pub returns-in-Ok : goal.returns-in-Ok
returns-in-Ok g c first rest text before s =
    let told = rw c.as_slice.ensures.value at c.in-Ok.ensures.told in
    subst (λ (w : List ℕ). StandsAt None first (g.K.Sink.taken c.write_piece.new.sink) (w ++ rest) text before (g.K.Sink.faults c.write_piece.new.sink)) (sym c.clear.ensures.items)
    (stands_written first (g.K.Sink.taken c.args.sink.now) before (g.K.Sink.faults c.args.sink.now) (g.K.Sink.taken c.write_piece.new.sink)
    (g.K.Sink.faults c.write_piece.new.sink) c.args.waiting.now.items rest text s _ told c.in-Ok.ensures.cause)

pub returns-in-Err : goal.returns-in-Err
returns-in-Err g c first rest text before s =
    let told = rw c.as_slice.ensures.value at c.in-Err.ensures.told in
    stands_failed first (g.K.Sink.taken c.args.sink.now) before (g.K.Sink.faults c.args.sink.now) (g.K.Sink.taken c.write_piece.new.sink)
    (g.K.Sink.faults c.write_piece.new.sink) c.args.waiting.now.items rest text s _ (c.args.waiting.now.items ++ rest) told c.in-Err.ensures.cause
