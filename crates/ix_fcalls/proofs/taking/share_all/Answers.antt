use Rattle.std.proofs.Common.{◌∙◌, arith}
use Rattle.ix_fcalls.proofs.{Sharing.{shared_more, shared_same}, taking.share_all.Goals.{in-Some, in_default}}
use Rattle.ix_fcalls.proofs.taking.share_all.Goals as goal

pub loop-fd-preserved : goal.loop-fd-preserved
loop-fd-preserved c = elim c.match-fds-fd.branch [
  | in-Some w ↦ shared_more _ _ _ _ _ (omega (
    arith,
    c.told-fds,
    c.loop-fd-test.true,
  )) c.loop-fd.invariant _ w.in-Some.is (c.requires.entries _ _ w.in-Some.is) c.requires.long (w.tables-is ∙ w.share.ensures)
  | in_default w ↦ shared_same _ _ _ _ _ (omega (
    arith,
    c.told-fds,
    c.loop-fd-test.true,
  )) c.loop-fd.invariant w.in_default.is w.tables-is
]
