use Rattle.std.proofs.Common.{◌≡◌, ◌∙◌, ap, arith, is_ok, not, true}
use Rattle.ix_host.proofs.piecewise.Fronts.{read_after, front_grows}
use Rattle.ix_host.proofs.streams.stream.read_piece.Goals as goal

pub returns-else-is_err-clause-told : goal.returns-else-is_err-clause-told
returns-else-is_err-clause-told g c = λ all front.
    let went : is_ok c.extend_from_slice.result ≡ true = c.is_err.ensures.negation ∙ ap not c.if-is_err.false in
    rw (c.extend_from_slice.ensures.items, went)
    (front_grows all _ _ _ c.in-Ok.n _ front (read_after _ _ _ _ _ _ front c.in-Ok.ensures.bytes) (omega (arith, c.in-Ok.ensures.bound, c.read.auto.buf)))
