use Rattle.std.proofs.Common.{◌+◌, length, sym, subst}
use Rattle.ix_model.specs.{history.{Events.Event, Calls.event_of, History.{History, world_of, next}, Shown.AreShown}, declared.reply.Reply.Reply}
use Rattle.ix_model.proofs.clean.Showing.{shown_step}
use Rattle.ix_replay.proofs.piecewise.Shown.{shown_is}
use Rattle.ix_replay.proofs.reporting.replay.make.Goals as goal

pub returns-clause-shown : goal.returns-clause-shown
returns-clause-shown g c =
    let old : History = c.args.core.now in
    let e : Event = event_of c.args.entry.now in
    let are : AreShown c.in-Given.reply (next old e).bytes =
    subst (λ (r : Reply). AreShown r (next old e).bytes) (sym c.in-Given.ensures.step.1) (shown_step (world_of old) (length old.events + 1) e.pid e.op) in
    shown_is c.in-Given.reply c.step.new.buf (next old e).bytes c.in-Given.ensures.shown are
