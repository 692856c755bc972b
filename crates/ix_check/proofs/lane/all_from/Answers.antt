use Rattle.std.proofs.Common.{refl, sym, ◌∙◌}
use Rattle.ix_check.{specs.Stepping.{is_from, next_phase}, proofs.LookedAt.{fails, none_left, passes}}
use Rattle.ix_check.proofs.lane.all_from.Goals as goal

pub loop-lane-init : goal.loop-lane-init
loop-lane-init g c = refl

pub loop-lane-preserved : goal.loop-lane-preserved
loop-lane-preserved g c =
    passes _ _ _ _ c.loop-lane-test.true c.lane-item.is
    (sym c.is_from.ensures ∙ c.if-not-is_from.false) c.loop-lane.invariant

pub returns-then-not-is_from : goal.returns-then-not-is_from
returns-then-not-is_from g c =
    fails _ _ _ _ c.loop-lane-test.true c.lane-item.is
    (sym c.is_from.ensures ∙ c.if-not-is_from.true) c.loop-lane.invariant

pub returns : goal.returns
returns g c = none_left (λ x. is_from c.args.phase (next_phase (g.L.LaneSteps.at x))) c.args.lanes.now c.loop-lane.lane-index c.loop-lane-test.false c.loop-lane.invariant
