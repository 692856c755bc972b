use Rattle.std.proofs.Common.{◌+◌, ap, arith}
use Rattle.ix_marks.proofs.Changed.{entry_spots}
use Rattle.ix_marks.proofs.marks.Marks.relabel_entry.Goals as goal

pub returns-clause-spots : goal.returns-clause-spots
returns-clause-spots c = entry_spots _ _ _ _ _ c.self.invariant _ c.self.view_is (c.self.inside.raised + 1) c.args.entry c.index_mut.result.now (omega (
  arith,
  c.requires.entry,
  ap (λ k. k.sizes.opens) c.self.view_is,
)) c.index_mut.ensures.value
