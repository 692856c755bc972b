use Rattle.std.proofs.Common.{Option, Some, if◌then◌else◌, ap, ◌∙◌, arith}
use Rattle.ix_marks.{specs.{declared.row.Spot.Spot, RowIndex.row_of, Known.{is_it, sum_at}}, proofs.{Spots.row_low, Changed.{set_spots, set_kept}}}
use Rattle.ix_marks.proofs.marks.Marks.set.Goals as goal

pub index_mut-requires : goal.index_mut-requires
index_mut-requires c = omega (
  arith,
  row_low _ _ _ _ _ c.self.invariant _ c.self.view_is c.args.pid.0 c.row_for-row.result (ap (λ k. row_of c.args.pid.0 k.owners.pids) c.self.view_is
      ∙ c.row_for-row.ensures.row),
  c.self.inside.rows.ok,
)

pub invariant_of-self : goal.invariant_of-self
invariant_of-self c =
    set_kept _ _ _ _ _ c.self.invariant _ c.self.view_is c.args.pid.0 c.row_for-row.result (ap (λ k. row_of c.args.pid.0 k.owners.pids) c.self.view_is
    ∙ c.row_for-row.ensures.row) c.index_mut.result.now c.index_mut.ensures.value c.args.fd.0 c.args.way c.args.spot c.sum_at-sum.result
    (c.sum_at-sum.ensures ∙ ap (λ xs. sum_at xs c.deref-2.result.now c.args.spot) c.deref.ensures.value ∙ ap (λ xs. sum_at c.self.inside.objects.items xs c.args.spot) c.deref-2.ensures.value)
    c.set.new.self c.set.ensures.generation c.set.ensures.places

pub returns-clause-spots : goal.returns-clause-spots
returns-clause-spots c = λ q d w.
    set_spots _ _ _ _ _ c.self.invariant _ c.self.view_is c.args.pid.0 c.row_for-row.result (ap (λ k. row_of c.args.pid.0 k.owners.pids) c.self.view_is
    ∙ c.row_for-row.ensures.row) c.index_mut.result.now c.index_mut.ensures.value c.args.fd.0 c.args.way c.args.spot c.sum_at-sum.result
    (c.sum_at-sum.ensures ∙ ap (λ xs. sum_at xs c.deref-2.result.now c.args.spot) c.deref.ensures.value ∙ ap (λ xs. sum_at c.self.inside.objects.items xs c.args.spot) c.deref-2.ensures.value)
    c.set.new.self c.set.ensures.generation c.set.ensures.places q d w
    ∙ ap (λ (o : Option Spot). if is_it c.args.pid.0 c.args.fd.0 c.args.way q d w then Some c.args.spot else o) (c.row_for-row.ensures.spots q d w)
