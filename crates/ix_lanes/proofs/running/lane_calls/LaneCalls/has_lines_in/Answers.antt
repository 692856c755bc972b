use Rattle.std.proofs.Common.{◌≡◌, true, length, subst}
use Rattle.ix_lanes.{specs.running.{Left.{LaneLeft, asks_left, is_done}, Phases.lines_before, Stretches.TellsPart}, proofs.phased.TakingPart.left_between}
use Rattle.ix_lanes.proofs.running.lane_calls.LaneCalls.has_lines_in.Goals as goal

pub returns : goal.returns
returns c =
    subst (λ (v : LaneLeft). is_done (asks_left v) ≡ true → v.end ≡ length (lines_before c.args.phase v.script) → TellsPart v.script v.seat c.args.phase c.has_part.result) c.self.view_is
    (λ done is. c.has_part.ensures (left_between _ _ _ _ _ _ _ _ _ _ _ c.self.invariant.1 c.args.phase done is))
