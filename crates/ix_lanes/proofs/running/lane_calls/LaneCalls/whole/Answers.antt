use Rattle.std.proofs.Common.{◌∙◌}
use Rattle.ix_lanes.proofs.phased.Lefts.{whole_asks}
use Rattle.ix_lanes.proofs.running.lane_calls.LaneCalls.whole.Goals as goal

pub returns-clause-asks : goal.returns-clause-asks
returns-clause-asks c =
    c.ask_to.ensures.asks ∙ whole_asks c.in_ok-calls.calls c.args.script.now c.args.lane c.len.result c.in_ok-calls.ensures.place c.in_ok-calls.ensures.asks c.len.ensures.len
