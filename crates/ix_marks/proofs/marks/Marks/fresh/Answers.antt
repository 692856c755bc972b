use Rattle.std.proofs.Common.{sym, ap, ◌∙◌, arith}
use Rattle.ix_marks.{proofs.{Spots.row_low, Changed.fresh_told}, specs.Known.sum_at}
use Rattle.ix_marks.proofs.marks.Marks.fresh.Goals as goal

pub index-row-requires : goal.index-row-requires
index-row-requires c = omega (arith, row_low _ _ _ _ _ c.self.invariant _ c.self.view_is c.args.pid.0 c.in-Some.row (sym c.in-Some.ensures), c.self.inside.rows.ok)

pub returns : goal.returns
returns c =
    fresh_told _ _ _ _ _ c.self.invariant _ c.self.view_is c.args.pid.0 c.in-Some.row (sym c.in-Some.ensures) c.index-row.result.now c.index-row.ensures
    c.args.fd.0 c.args.way c.place-place.result c.place-place.ensures c.sum_at-sum.result
    (c.sum_at-sum.ensures ∙ ap (λ xs. sum_at xs c.deref-2.result.now c.spot.result) c.deref.ensures.value
    ∙ ap (λ xs. sum_at c.self.inside.objects.items xs c.spot.result) c.deref-2.ensures.value
    ∙ ap (sum_at c.self.inside.objects.items c.self.inside.opens.items) c.spot.ensures)
    c.fresh.result c.fresh.ensures
