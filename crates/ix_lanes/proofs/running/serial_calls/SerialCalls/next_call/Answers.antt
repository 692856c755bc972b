use Rattle.std.proofs.Common.{map, sym, ap, ◌∙◌}
use Rattle.ix_asking.specs.declared.serving.outcome.Outcome.{Outcome}
use Rattle.ix_privserv.specs.Places as privileges
use Rattle.ix_sessserv.specs.Places as sessions
use Rattle.ix_lanes.specs.{asking.{Places.standing, Handing.who_in}, running.Serially.next_entry}
use Rattle.ix_lanes.proofs.phased.InOrder.{mapped_next}
use Rattle.ix_lanes.specs.declared.asking.handed.Handed.TheVariants as handed
use Rattle.ix_lanes.proofs.running.serial_calls.SerialCalls.next_call.Goals as goal

pub returns-in-Priv-clause-entry : goal.returns-in-Priv-clause-entry
returns-in-Priv-clause-entry c =
    let i = c.self.inside in
    let m = c.in-Priv.server in
    c.called-in-Priv.ensures ∙ sym (mapped_next c.in-Some.seat (λ (o : Outcome). handed.Nothing) (privileges.asks_at m.policy.now (record { line = m.line; pid = m.server.0; fd = m.fd.0 }) m.at))
    ∙ (λ j. next_entry (record { script = i.script.now; names = map standing i.places.items; at = i.here.at; seat = sym c.in-Some.is j; copying = i.copying; part = sym c.in-Priv.is j }))
    ∙ ap next_entry c.self.view_is

pub returns-in-Login-clause-entry : goal.returns-in-Login-clause-entry
returns-in-Login-clause-entry c =
    let i = c.self.inside in
    let m = c.in-Login.server in
    c.called-in-Login.ensures ∙ sym (mapped_next c.in-Some.seat who_in (sessions.asks_at m.policy.now (record { line = m.line; pid = m.server.0; fd = m.fd.0 }) m.hand m.at))
    ∙ (λ j. next_entry (record { script = i.script.now; names = map standing i.places.items; at = i.here.at; seat = sym c.in-Some.is j; copying = i.copying; part = sym c.in-Login.is j }))
    ∙ ap next_entry c.self.view_is
