use Rattle.std.proofs.{Common.arith, lemmas.Result.err_from_is_err_and}
use Rattle.ix_image.proofs.Reread.{links_go_on, links_end, links_readable, links_are}
use Rattle.ix_image.proofs.links.links_at.Goals as goal

pub returns-in_err-after : goal.returns-in_err-after
returns-in_err-after c =
    let p = err_from_is_err_and c.from_residual.result c.from_residual.ensures.1 in
    rw (p.1, p.2) (links_end c.args.count c.loop.counter c.args.bytes.now c.loop.rest.now c.in_err-after.field-0.0 (omega arith) c.in_err-after.ensures c.loop.invariant)

pub loop-preserved : goal.loop-preserved
loop-preserved c = links_go_on _ _ _ _ _ _ (omega arith) c.in_ok-after.ensures
    c.loop.invariant

pub invariant_of-result : goal.invariant_of-result
invariant_of-result c = record { readable = links_readable _ _ _ _ c.loop.invariant (omega arith) }

pub returns : goal.returns
returns c = links_are _ _ _ _ c.loop.invariant (omega arith)
