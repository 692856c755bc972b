use Rattle.std.proofs.Common.{◌≡◌, ◌+◌, ◌∙◌, ap, length, Some, subst, sym}
use Rattle.ix_model.specs.{history.{Calls.op_of, Events.Event, History.world_of, Made.entry}, declared.reply.Answer.Answer}
use Rattle.ix_core.specs.Stepping.{MakesNext}
use Rattle.ix_lanes.specs.{asking.Asked.made_by, running.Serially.next_entry}
use Rattle.ix_serial.proofs.Stepping.{never_full, stands_next}
use Rattle.ix_serial.proofs.serial.step.Goals as goal

pub unreachable-requires : goal.unreachable-requires
unreachable-requires g c =
    let e : Event = entry c.in-Some.caller.seat c.in-Some.caller.line c.in-Some.caller.pid (op_of c.next_call.new.call) in
    let next : next_entry c.args.calls.now ≡ Some e = sym c.next_call.ensures.entry ∙ ap (λ who. made_by who c.next_call.new.call) c.in-Some.is in
    never_full c.args.core.now c.call.new.self c.args.calls.now e c.args.buf.now c.call.new.buf c.requires.stands next c.call.result c.in_default-call.not-Given c.call.ensures.step.step

pub returns-clause-stands : goal.returns-clause-stands
returns-clause-stands g c =
    let h = c.args.core.now in
    let e : Event = entry c.in-Some.caller.seat c.in-Some.caller.line c.in-Some.caller.pid (op_of c.next_call.new.call) in
    let next : next_entry c.args.calls.now ≡ Some e = sym c.next_call.ensures.entry ∙ ap (λ who. made_by who c.next_call.new.call) c.in-Some.is in
    let made = (subst (λ (a : Answer). MakesNext a h c.call.new.self e c.call.new.buf) c.in-Given.is c.call.ensures.next).0 in
    stands_next h c.call.new.self c.args.calls.now c.hear.new.self e c.requires.stands made.history c.hear.ensures.script
    (c.hear.ensures.on (world_of h) (length h.events + 1) e next (λ i. record { reply = sym made.reply i; bytes = (sym made.bytes ∙ sym c.read_by-bytes.ensures) i }))
