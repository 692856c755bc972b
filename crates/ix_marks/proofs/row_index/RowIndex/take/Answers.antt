use Rattle.std.proofs.Common.{◌==◌, Some, sym, ap, ◌∙◌, arith, length, if◌then◌else◌}
use Rattle.ix_marks.{specs.RowIndex.{row_of, RowOwners}, proofs.Seated.{index_low, seated_more, rows_more, no_one's}}
use Rattle.ix_marks.proofs.row_index.RowIndex.take.Goals as goal

pub index_mut-requires : goal.index_mut-requires
index_mut-requires c = omega (arith, index_low _ _ _ c.self.invariant c.is_pool.ensures c.args.pid.0 c.in-Some.row (sym c.in-Some.ensures.moved), c.self.inside.pids.ok)

pub invariant_of-self : goal.invariant_of-self
invariant_of-self c = seated_more _ _ _ c.self.invariant c.is_pool.ensures c.args.pid.0 c.in-Some.row (sym c.in-Some.ensures.moved)
    (ap (λ s. row_of c.args.pid.0 s.pids) c.self.view_is ∙ c.requires.none) c.push_back.new.self c.push_back.ensures.pushed

pub returns-clause-rows : goal.returns-clause-rows
returns-clause-rows c = λ q.
    rows_more _ _ _ c.self.invariant c.is_pool.ensures c.args.pid.0 c.in-Some.row (sym c.in-Some.ensures.moved) (ap (λ s. row_of c.args.pid.0 s.pids) c.self.view_is ∙ c.requires.none) q
    ∙ ap (λ (s : RowOwners). if q == c.args.pid.0 then Some c.in-Some.row else row_of q s.pids) c.self.view_is

pub returns-clause-unused : goal.returns-clause-unused
returns-clause-unused c = λ q h. no_one's _ _ _ c.self.invariant c.is_pool.ensures c.args.pid.0 c.in-Some.row (sym c.in-Some.ensures.moved) q (ap (λ s. row_of q s.pids) c.self.view_is ∙ h)

pub returns-clause-below : goal.returns-clause-below
returns-clause-below c = omega (
  arith,
  index_low _ _ _ c.self.invariant c.is_pool.ensures c.args.pid.0 c.in-Some.row (sym c.in-Some.ensures.moved),
  ap (λ (s : RowOwners). length s.pids) c.self.view_is,
)
