use Rattle.std.proofs.Common.{arith}
use Rattle.ix_lanes.proofs.phased.Among.{among_first}
use Rattle.ix_lanes.proofs.running.lane_calls.LaneCalls.new.Goals as goal

pub invariant_of-result : goal.invariant_of-result
invariant_of-result c = (
  record { header = c.requires.header; places = c.in_ok-places.ensures.all; ruled = c.requires.policy },
  record {
    within = (omega arith, omega arith);
    among = among_first c.args.script.now c.args.lane;
    over = λ over. omega arith;
    mine = λ not. cc;
    line = λ not. cc;
    apart = λ not. cc;
    numbered = tt;
    pending = tt;
    holds = tt;
  },
)
