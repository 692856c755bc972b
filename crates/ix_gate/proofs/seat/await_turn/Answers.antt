use Rattle.std.proofs.Common.{rules, refl, ap, sym, ◌∙◌, ◌∷◌, Some, le_refl}
use Rattle.atomic_table.specs.Table.{rest}
use Rattle.ix_gate.proofs.{Looking.look_allowed, Resting.taking}
use Rattle.ix_gate.proofs.seat.await_turn.Goals as goal

pub loop-init : goal.loop-init
loop-init g c = (refl, refl, (c.args.token.now.me.0.looks, c.args.token.now.me.0.look_found, le_refl _, refl), c.requires.free)

pub load-serving-requires : goal.load-serving-requires
load-serving-requires g c = (search rules, search rules, look_allowed _ _ _ _ _ _ _ _ _ (ap (λ v. v.stage) c.loop.invariant.2.3 ∙ c.requires.waits))

pub exchange-requires : goal.exchange-requires
exchange-requires g c =
    let t = (c.load-serving.ensures.2 c.args.ticket (ap (λ v. v.stage) c.loop.invariant.2.3 ∙ c.requires.waits)).0 c.if-serving-ticket.true in
    let slots = ap (λ m. m.1) t.now in
    (search rules, (Some t.machine, slots ∙ ap (λ l. (0, Some t.machine) ∷ rest l) (sym slots)))

pub returns-then-serving-ticket-clause-taken : goal.returns-then-serving-ticket-clause-taken
returns-then-serving-ticket-clause-taken g c =
    let t = (c.load-serving.ensures.2 c.args.ticket (ap (λ v. v.stage) c.loop.invariant.2.3 ∙ c.requires.waits)).0 c.if-serving-ticket.true in
    taking _ _ _ _ _ _ _ _ _ _ c.loop.invariant.2 c.loop.invariant.3 (c.if-serving-ticket.true ∙ sym c.requires.drawn) t c.exchange.ensures.2 c.unwrap.ensures c.exchange.ensures.3
