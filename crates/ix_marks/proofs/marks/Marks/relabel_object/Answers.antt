use Rattle.std.proofs.Common.{◌+◌, ap, arith}
use Rattle.ix_marks.proofs.Changed.{object_spots}
use Rattle.ix_marks.proofs.marks.Marks.relabel_object.Goals as goal

pub returns-clause-spots : goal.returns-clause-spots
returns-clause-spots c = object_spots _ _ _ _ _ c.self.invariant _ c.self.view_is (c.self.inside.raised + 1) c.args.object c.index_mut.result.now (omega (
  arith,
  c.requires.object,
  ap (λ k. k.sizes.objects) c.self.view_is,
)) c.index_mut.ensures.value
