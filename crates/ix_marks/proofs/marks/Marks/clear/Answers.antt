use Rattle.std.proofs.Common.{sym, arith}
use Rattle.ix_marks.proofs.{Spots.row_low, Changed.{clear_spots, clear_kept}}
use Rattle.ix_marks.proofs.marks.Marks.clear.Goals as goal

pub index_mut-requires : goal.index_mut-requires
index_mut-requires c = omega (arith, row_low _ _ _ _ _ c.self.invariant _ c.self.view_is c.args.pid.0 c.in-Some.row (sym c.in-Some.ensures), c.self.inside.rows.ok)

pub invariant_of-self : goal.invariant_of-self
invariant_of-self c = clear_kept _ _ _ _ _ c.self.invariant _ c.self.view_is c.args.pid.0 c.in-Some.row (sym c.in-Some.ensures) c.index_mut.result.now
    c.index_mut.ensures.value c.args.fd.0 c.clear.new.self c.clear.ensures.generation c.clear.ensures.places

pub returns-clause-spots : goal.returns-clause-spots
returns-clause-spots c = clear_spots _ _ _ _ _ c.self.invariant _ c.self.view_is c.args.pid.0 c.in-Some.row (sym c.in-Some.ensures) c.index_mut.result.now
    c.index_mut.ensures.value c.args.fd.0 c.clear.new.self c.clear.ensures.generation c.clear.ensures.places
