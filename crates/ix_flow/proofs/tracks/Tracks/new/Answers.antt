use Rattle.std.proofs.Common.{arith, subst}
use Rattle.ix_flow.{specs.Tracking.AreOpened, proofs.Opened.opened_all}
use Rattle.ix_flow.proofs.tracks.Tracks.new.Goals as goal

pub returns : goal.returns
returns c =
    opened_all _ c.requires _ c.len.ensures.sound (subst (λ n. AreOpened c.loop-object.tracks c.args.core.now n) (omega (
      arith,
      c.loop-object.auto.object-end,
      c.loop-object-test.false,
      c.objects-object-end.ensures,
    )) c.loop-object.invariant)
