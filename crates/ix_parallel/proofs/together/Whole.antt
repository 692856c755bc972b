-- What the lanes made in all phases is a history of the script.
use Rattle.std.{proofs.Common.{◌≡◌, nat_lt, true, List, length, sym, ◌∙◌}, specs.List.list_all}
use Rattle.ix_model.specs.history.Events.{Event}
use Rattle.ix_script.specs.{lines.Before.lanes_of, declared.line.Line.Line, scripts.Schedule.phases}
use Rattle.ix_lanes.specs.histories.{Serial.serial, Lanes.replies_of, History.IsHistory}
use Rattle.ix_lanes.proofs.serially.{AllPhases.all_phases, SerialHistories.serial_serial}
use Rattle.ix_parallel.{specs.Stages.Stages, proofs.together.{PhaseOf.by_lines, Order.{all_within, lanes_come_to, stages_in_order}}}

pub stages_make : (s : List Line) (events : List Event) → Stages s (phases s) events → list_all (λ e. nat_lt e.seat (length (lanes_of s))) events ≡ true → IsHistory s events
stages_make s events h seats = record {
  lanes = record {
    seats = seats;
    calls = λ seat low. sym (all_phases s seat (replies_of s seat events)) ∙ lanes_come_to s (phases s) events h seat low;
  };
  order = (stages_in_order s (phases s) events h (all_within (length (lanes_of s)) events seats)).1;
}

-- the serial history of a script is one of its histories
pub serial_history : (s : List Line) → IsHistory s (serial s)
serial_history s = let is = serial_serial s in record { lanes = is.lanes; order = by_lines s (serial s) is.order }
