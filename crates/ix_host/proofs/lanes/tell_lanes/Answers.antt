use Rattle.ix_lanes.{proofs.serially.Needs.whole_fits, specs.histories.Serial.serial}
use Rattle.ix_parallel.proofs.together.Whole.{serial_history}
use Rattle.ix_host.specs.run.Tasks.{text_told}
use Rattle.ix_host.specs.run.Outcome as outcome
use Rattle.ix_host.proofs.comes_to.Preparing.{ends_without_memory}
use Rattle.ix_host.proofs.lanes.tell_lanes.Goals as goal

pub returns-then-lanes-le1 : goal.returns-then-lanes-le1
returns-then-lanes-le1 g c = record { history = serial c.args.script.now; is = serial_history c.args.script.now; holds = c.tell_serial.ensures }

pub conclude-requires-clause-fits : goal.conclude-requires-clause-fits
conclude-requires-clause-fits g c = whole_fits c.args.script.now c.in-Ok.history.events c.in-Ok.ensures.history.lanes

pub returns-in-Ok : goal.returns-in-Ok
returns-in-Ok g c = record { history = c.in-Ok.history.events; is = c.in-Ok.ensures.history; holds = c.conclude.ensures }

pub returns-in-Err : goal.returns-in-Err
returns-in-Err g c =
    let history = serial c.args.script.now in
    record {
      history = history;
      is = serial_history c.args.script.now;
      holds = ends_without_memory (outcome.Whole (text_told c.args.telling c.args.script.now history)) (g.K.Sink.taken c.args.sink.now) (g.K.Sink.finished c.args.sink.now) (g.K.Sink.faults c.args.sink.now);
    }
