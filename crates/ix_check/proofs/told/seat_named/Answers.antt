use Rattle.std.proofs.Common.{option_map, sym, ap, ◌∙◌, arith}
use Rattle.ix_script.specs.lines.Before.{lanes_of}
use Rattle.ix_check.proofs.{LaneCount.lanes_few, LaneTold.{lane_here, lane_later, lane_none, lane_past}}
use Rattle.ix_check.proofs.told.seat_named.Goals as goal

pub returns-then-names_lane : goal.returns-then-names_lane
returns-then-names_lane c =
    lane_here _ _ _ _ _
    (sym c.in-Some.ensures) (sym c.names_lane.ensures ∙ c.if-names_lane.true) c.loop-seat.invariant

pub loop-seat-preserved : goal.loop-seat-preserved
loop-seat-preserved c =
    lane_later _ (lanes_of c.args.script.now) _ c.loop-seat.seat _
    (sym c.in-Some.ensures) (sym c.names_lane.ensures ∙ c.if-names_lane.false) c.loop-seat.invariant

pub returns : goal.returns
returns c =
    lane_none c.args.text.now (lanes_of c.args.script.now) _ c.loop-seat.seat
    (omega (arith, lanes_few c.args.script.now, c.len-seat-end.ensures.len, c.loop-seat-test.false)) c.loop-seat.invariant

pub returns-in_default : goal.returns-in_default
returns-in_default c =
    lane_past c.args.text.now (lanes_of c.args.script.now) _ c.loop-seat.seat (sym c.lane.ensures ∙ ap (option_map _) c.in_default.is) c.loop-seat.invariant
