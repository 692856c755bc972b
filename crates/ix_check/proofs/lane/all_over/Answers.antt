use Rattle.std.proofs.Common.{is_none, refl, sym, ◌∙◌}
use Rattle.ix_check.proofs.LookedAt.{fails, none_left, passes}
use Rattle.ix_check.proofs.lane.all_over.Goals as goal

pub loop-lane-init : goal.loop-lane-init
loop-lane-init g c = refl

pub loop-lane-preserved : goal.loop-lane-preserved
loop-lane-preserved g c =
    passes _ _ _ _ c.loop-lane-test.true c.lane-item.is
    (sym c.is_over.ensures ∙ c.if-not-is_over.false) c.loop-lane.invariant

pub returns-then-not-is_over : goal.returns-then-not-is_over
returns-then-not-is_over g c =
    fails _ _ _ _ c.loop-lane-test.true c.lane-item.is
    (sym c.is_over.ensures ∙ c.if-not-is_over.true) c.loop-lane.invariant

pub returns : goal.returns
returns g c = none_left (λ x. is_none _) c.args.lanes.now c.loop-lane.lane-index c.loop-lane-test.false c.loop-lane.invariant
