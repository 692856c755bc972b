use Rattle.std.proofs.Common.{sym, ap, ◌∙◌}
use Rattle.ix_asking.specs.Asking.{first}
use Rattle.ix_lanes.{specs.running.Left.{LaneLeft, asks_left, next_phase}, proofs.phased.Lefts.{line_left, not_over, phase_here}}
use Rattle.ix_lanes.proofs.running.lane_calls.LaneCalls.next_phase.Goals as goal

pub returns-in_default : goal.returns-in_default
returns-in_default c =
    let is = not_over c.self.inside.part c.in_default.not-Over in
    sym (ap (λ q. next_phase c.self.inside.script.now (first q)) (line_left _ _ _ _ _ _ _ _ _ _ _ c.self.invariant.1) ∙ phase_here _ _ _ _ _ _ _ _ _ _ _ c.self.invariant.1 is)
    ∙ ap (λ (v : LaneLeft). next_phase v.script (first (asks_left v))) c.self.view_is
