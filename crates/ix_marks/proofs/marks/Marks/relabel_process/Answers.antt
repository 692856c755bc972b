use Rattle.std.proofs.Common.{sym, ap, arith}
use Rattle.ix_marks.proofs.{Spots.row_low, Changed.{raised_fits, process_spots, process_kept}}
use Rattle.ix_marks.proofs.marks.Marks.relabel_process.Goals as goal

pub index_mut-requires : goal.index_mut-requires
index_mut-requires c = omega (arith, row_low _ _ _ _ _ c.self.invariant _ c.self.view_is c.args.pid.0 c.in-Some.row (sym c.in-Some.ensures), c.self.inside.rows.ok)

pub overflow_add-index_mut : goal.overflow_add-index_mut
overflow_add-index_mut c =
    omega (
      arith,
      raised_fits _ _ _ _ _ c.self.invariant _ c.self.view_is c.args.pid.0 c.in-Some.row (sym c.in-Some.ensures) c.index_mut.result.now
          c.index_mut.ensures.value (omega (arith, c.requires, ap (λ k. k.raised) c.self.view_is)),
    )

pub invariant_of-self : goal.invariant_of-self
invariant_of-self c = process_kept _ _ _ _ _ c.self.invariant _ c.self.view_is c.args.pid.0 c.in-Some.row (sym c.in-Some.ensures) c.index_mut.result.now
    c.index_mut.ensures.value (omega (arith, c.requires, ap (λ k. k.raised) c.self.view_is))

pub returns-in-Some-clause-spots : goal.returns-in-Some-clause-spots
returns-in-Some-clause-spots c = process_spots _ _ _ _ _ c.self.invariant _ c.self.view_is c.args.pid.0 c.in-Some.row (sym c.in-Some.ensures) c.index_mut.result.now c.index_mut.ensures.value
