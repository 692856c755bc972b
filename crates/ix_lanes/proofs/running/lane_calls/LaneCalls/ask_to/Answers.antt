use Rattle.ix_lanes.proofs.phased.Placed.{keeps-lines}
use Rattle.ix_lanes.proofs.running.lane_calls.LaneCalls.ask_to.Goals as goal

pub invariant_of-self : goal.invariant_of-self
invariant_of-self c = (
  record {
    header = c.self.invariant.0.header;
    places = keeps-lines c.self.inside.places c.find.new.places c.find.ensures.keeps _ c.self.invariant.0.places;
    ruled = c.self.invariant.0.ruled;
  },
  c.find.ensures.here,
)
