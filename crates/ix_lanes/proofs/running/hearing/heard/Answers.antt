use Rattle.std.proofs.Common.{◌≡◌, ◌<◌, List, ℕ, sym, ap, ◌∙◌, subst, arith}
use Rattle.ix_asking.specs.{Asking.{Answered, mapped, Asking, Done, IsDue, first, heard}, declared.serving.outcome.Outcome.Outcome}
use Rattle.ix_sessserv.specs.Places as sessions
use Rattle.ix_sessserv.specs.declared.server.SessServer.{SessServer}
use Rattle.ix_lanes.specs.{asking.{Asked.asked, Handing.who_in, LineAsks.one_call}, declared.running.part.Part.Part, running.Left.{part_left, part_most}}
use Rattle.ix_lanes.proofs.phased.Lefts.{command_heard, mapped_due, mapped_heard}
use Rattle.ix_lanes.proofs.running.hearing.heard.Goals as goal

pub returns-in-Command : goal.returns-in-Command
returns-in-Command c = λ header names n l due.
    let one : IsDue (first (one_call (asked header names n l))) = subst (λ (p : Part). IsDue (first (part_left header names n l c.args.copying.now p))) c.in-Command.is due in
    rw c.in-Command.is
    (command_heard (asked header names n l) (record { reply = c.args.reply.now; bytes = c.args.bytes.now }) one ∙ ap Done (sym c.handed_in.ensures), omega arith)

pub returns-in-None-hear_on-2 : goal.returns-in-None-hear_on-2
returns-in-None-hear_on-2 c = λ header names n l due.
    let a : Answered = record { reply = c.args.reply.now; bytes = c.args.bytes.now } in
    let old : SessServer = c.in-Login.server in
    let new : SessServer = c.hear_on-in-Login.new.asks in
    let was : Asking Outcome = sessions.asks_at old.policy.now (record { line = old.line; pid = old.server.0; fd = old.fd.0 }) old.hand old.at in
    let is : Asking Outcome = sessions.asks_at new.policy.now (record { line = new.line; pid = new.server.0; fd = new.fd.0 }) new.hand new.at in
    subst (λ (p : Part). (mapped who_in is ≡ heard (part_left header names n l c.args.copying.now p) a) × IsDue (first (mapped who_in is))
    × (sessions.most_at new.at < part_most c.args.copying.now p) × ((buf : List ℕ) → Unit {0})) (sym c.in-Login.is) (
      ap (mapped who_in) c.in-None-hear_on-2.ensures.asking ∙ sym (mapped_heard who_in was a),
      mapped_due who_in is c.in-None-hear_on-2.ensures.on,
      c.in-None-hear_on-2.ensures.fewer,
      λ buf. tt,
    )
