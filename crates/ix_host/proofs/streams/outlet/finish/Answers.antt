use Rattle.std.proofs.Common.{[], None, sym, subst}
use Rattle.ix_host.specs.{declared.status.Status.Status, run.Run.Ends}
use Rattle.ix_host.proofs.piecewise.Stands.{ends_done, ends_failed, ends_stopped, stands_failed, stands_whole, stands_written}
use Rattle.ix_host.specs.run.Outcome as outcome
use Rattle.ix_host.proofs.streams.outlet.finish.Goals as goal

pub returns-in-Some : goal.returns-in-Some
returns-in-Some g c first text before s =
    let after = g.K.Sink.taken c.args.sink.now in
    let now = g.K.Sink.faults c.args.sink.now in
    let done = g.K.Sink.finished c.args.sink.now in
    let ends = ends_stopped first after text done before now c.in-Some.failure c.args.waiting.now (rw c.in-Some.is at s) in
    subst (λ (end : Status). Ends (outcome.Whole text) end first after done before now) (sym c.status.ensures) ends

pub returns-in-Ok : goal.returns-in-Ok
returns-in-Ok g c first text before s =
    let after = g.K.Sink.taken c.args.sink.now in
    let now = g.K.Sink.faults c.args.sink.now in
    let later = g.K.Sink.taken c.write_all.new.sink in
    let then = g.K.Sink.faults c.write_all.new.sink in
    let stands = stands_whole first after before now None c.args.waiting.now text (rw c.in-None.is at s) in
    ends_done first later text (g.K.Sink.finished c.write_all.new.sink) before then
    (stands_written first after before now later then c.args.waiting.now [] text stands _ c.in-Ok.ensures.told c.in-Ok.ensures.cause)
    c.in-Ok.ensures.finished

pub returns-in-Err : goal.returns-in-Err
returns-in-Err g c first text before s =
    let after = g.K.Sink.taken c.args.sink.now in
    let now = g.K.Sink.faults c.args.sink.now in
    let later = g.K.Sink.taken c.write_all.new.sink in
    let then = g.K.Sink.faults c.write_all.new.sink in
    let stands = stands_whole first after before now None c.args.waiting.now text (rw c.in-None.is at s) in
    ends_failed first later text (g.K.Sink.finished c.write_all.new.sink) before then c.args.waiting.now (stands_failed first after before now later then
    c.args.waiting.now [] text stands _ c.args.waiting.now c.in-Err.ensures.told c.in-Err.ensures.cause)
