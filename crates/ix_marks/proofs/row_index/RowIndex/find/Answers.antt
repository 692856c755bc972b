use Rattle.std.proofs.Common.{sym, ap, ◌∙◌}
use Rattle.ix_marks.{specs.RowIndex.row_of, proofs.Seated.row_read}
use Rattle.ix_marks.proofs.row_index.RowIndex.find.Goals as goal

pub returns : goal.returns
returns c = sym (row_read _ _ _ c.self.invariant c.args.pid.0 _ _ c.deref.ensures.value c.index_of.ensures) ∙ ap (λ s. row_of c.args.pid.0 s.pids) c.self.view_is
