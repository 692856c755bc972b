use Rattle.std.proofs.Common.{◌≡◌, ◌==◌, ℕ, Bool, true, false, List, Option, Some, None, refl, sym, ap, ◌∙◌, arith, if◌then◌else◌, length}
use Rattle.std.proofs.lemmas.Bool.{eqb-true}
use Rattle.ix_marks.{specs.RowIndex.{row_of, RowOwners}, proofs.Seated.{row_read, row_low, row_held, seated_fewer, rows_fewer}}
use Rattle.ix_marks.proofs.row_index.RowIndex.leave.Goals as goal

-- nothing changes where there is no row
unchanged : (p q : ℕ) (pids : List (Option ℕ)) → row_of p pids ≡ None → (b : Bool) → (q == p) ≡ b → row_of q pids ≡ (if b then None else row_of q pids)
unchanged p q pids none false is = refl
unchanged p q pids none true is = ap (λ k. row_of k pids) (eqb-true q p is) ∙ none

pub returns-in_default-clause-rows : goal.returns-in_default-clause-rows
returns-in_default-clause-rows c =
    λ q. unchanged c.args.pid.0 q c.args.self.now.pids ((ap (λ s. row_of c.args.pid.0 s.pids) (sym c.self.view_is)
    ∙ row_read _ _ _ c.self.invariant c.args.pid.0 _ _ c.deref.ensures.value c.in_default.ensures)) (q == c.args.pid.0) refl

pub returns-in_default-clause-free : goal.returns-in_default-clause-free
returns-in_default-clause-free c = let none =
    (ap (λ s. row_of c.args.pid.0 s.pids) (sym c.self.view_is) ∙ row_read _ _ _ c.self.invariant c.args.pid.0 _ _ c.deref.ensures.value c.in_default.ensures) in
    rw none refl

pub remove-requires-clause-held : goal.remove-requires-clause-held
remove-requires-clause-held c = row_held _ _ _ c.self.invariant c.is_pool.ensures c.args.pid.0 c.in-Some.row (row_read _ _ _ c.self.invariant c.args.pid.0 _ _ c.deref.ensures.value c.in-Some.ensures)

pub index_mut-requires : goal.index_mut-requires
index_mut-requires c = omega (
  arith,
  row_low _ _ _ c.self.invariant c.is_pool.ensures c.args.pid.0 c.in-Some.row (row_read _ _ _ c.self.invariant c.args.pid.0 _ _ c.deref.ensures.value
      c.in-Some.ensures),
  c.self.inside.pids.ok,
)

pub invariant_of-self : goal.invariant_of-self
invariant_of-self c = seated_fewer _ _ _ c.self.invariant c.is_pool.ensures c.args.pid.0 c.in-Some.row
    (row_read _ _ _ c.self.invariant c.args.pid.0 _ _ c.deref.ensures.value c.in-Some.ensures) c.remove.new.self c.remove.ensures

pub returns-clause-rows : goal.returns-clause-rows
returns-clause-rows c = λ q.
    rows_fewer _ _ _ c.self.invariant c.is_pool.ensures c.args.pid.0 c.in-Some.row (row_read _ _ _ c.self.invariant c.args.pid.0 _ _ c.deref.ensures.value c.in-Some.ensures) q
    ∙ ap (λ (s : RowOwners). if q == c.args.pid.0 then None else row_of q s.pids) c.self.view_is

pub returns-clause-free : goal.returns-clause-free
returns-clause-free c =
    let row : row_of c.args.pid.0 c.args.self.now.pids ≡ Some c.in-Some.row = ap (λ s. row_of c.args.pid.0 s.pids) (sym c.self.view_is)
    ∙ row_read _ _ _ c.self.invariant c.args.pid.0 _ _ c.deref.ensures.value c.in-Some.ensures in
    let free : length c.self.inside.buckets.free ≡ c.args.self.now.free = ap (λ (s : RowOwners). s.free) c.self.view_is in
    rw row (omega (arith, free, ap (λ s. length s.free) c.remove.ensures))
