use Rattle.std.proofs.Common.{◌∙◌, subst, List}
use Rattle.ix_model.specs.history.Events.{Event}
use Rattle.ix_replay.{specs.{Summary.summary_line, Tallying.HasSeen}, proofs.Summed.seen_none}
use Rattle.ix_script.specs.scripts.Scripts.{config_of}
use Rattle.ix_host.specs.run.Outcome as outcome
use Rattle.ix_host.specs.run.Run.{Ends}
use Rattle.ix_host.proofs.concluding.sum_up_serial.Goals as goal

pub returns-in-Ok : goal.returns-in-Ok
returns-in-Ok g c =
    let s = c.args.script.now in
    let seen : HasSeen c.in-Ok.history c.run_history.new.witness = c.in-Ok.ensures.seen c.new-tally.result (c.new-tally.ensures ∙ seen_none (config_of s)) in
    subst (λ (history : List Event). Ends (outcome.Whole (summary_line c.args.count s history)) c.sum_up.result (g.K.Sink.taken c.args.sink.now) (g.K.Sink.taken c.sum_up.new.sink)
    (g.K.Sink.finished c.sum_up.new.sink) (g.K.Sink.faults c.args.sink.now) (g.K.Sink.faults c.sum_up.new.sink)) c.in-Ok.ensures.serial (c.sum_up.ensures s c.in-Ok.ensures.config seen)
