-- What a lane asks for in all phases.
use Rattle.std.proofs.Common.{◌≡◌, ℕ, List, None, ap}
use Rattle.ix_script.specs.{lines.Before.lanes_of, declared.line.Line.Line, scripts.Schedule.phases}
use Rattle.ix_asking.specs.{Asking.Answered, Lines.{calls_then, no_calls}}
use Rattle.ix_lanes.specs.{asking.{Asked.no_names, LineAsks.lines_ask, Ruled.rules_told}, running.Phases.{asks_before, calls_before}}
use Rattle.ix_lanes.specs.histories.{Serial.header_of, Lanes.{calls_of, lane_asks, lines_of_seat}}
use Rattle.ix_lanes.proofs.phased.PhaseLines.{before-all}

-- all phases have all lines
pub all-asked : (s : List Line) (seat : ℕ) → asks_before s seat (phases s) ≡ lane_asks s seat
unfolding asks_before lane_asks
all-asked s seat =
    ap (λ lines. lines_ask (rules_told s) (header_of s) no_names (lines_of_seat (lanes_of s) seat 1 None lines)) (before-all s)

pub all_phases : (s : List Line) (seat : ℕ) (answers : List Answered) → calls_before s seat (phases s) answers ≡ calls_of s seat answers
all_phases s seat answers = ap (λ p. calls_then seat p answers no_calls) (all-asked s seat)
