use Rattle.std.proofs.Common.{rules, ◌∷◌, Some, refl, ap, sym, ◌∙◌, subst, arith}
use Rattle.ix_gate.{specs.{History.KeepsEnded, Seat.LearnsServed, View.with_ticket}, proofs.Looking.free_look_allowed, proofs.Trying.try_draw_allowed}
use Rattle.ix_gate.proofs.Resting.{idle_of, at_rest_after_look, at_rest_after_miss, at_rest_after_take, taking_at_once, learns}
use Rattle.atomic_table.specs.Table.{rest}
use Rattle.ix_gate.proofs.seat.Seat.try_take.Goals as goal

pub load-serving-requires : goal.load-serving-requires
load-serving-requires g c =
    let free = idle_of _ _ (ap (λ k. k.taken) c.self.view_is ∙ c.requires.free) c.self.invariant.carries in
    (search rules, search rules, free_look_allowed _ _ _ _ _ _ _ _ free.0)

pub compare_exchange-ticket-requires : goal.compare_exchange-ticket-requires
compare_exchange-ticket-requires g c =
    let free = idle_of _ _ (ap (λ k. k.taken) c.self.view_is ∙ c.requires.free) c.self.invariant.carries in
    let look = c.load-serving.ensures.2.now in
    let turns = ap (λ m. m.0.turns) look ∙ c.self.invariant.counted in
    let known = ap (λ k. k.turns) c.self.view_is in
    let room = c.requires.room in (
      search rules,
      search rules,
      try_draw_allowed _ _ _ _ _ _ _ _ c.self.inside.number c.load-serving.result (ap (λ m. m.0.stage) look ∙ free.0) (ap (λ m. m.0.role) look
          ∙ c.self.invariant.numbered) (omega arith) (ap (λ m. m.0.look_found) look),
    )

pub invariant_of-self : goal.invariant_of-self
invariant_of-self g c =
    at_rest_after_miss _ _ _ _ _ _
    (at_rest_after_look _ _ _ _ _ _ _ _ _
    c.self.invariant refl refl refl refl refl c.load-serving.ensures.2)
    (c.compare_exchange-ticket.ensures.2.1 c.if-ticket-serving.true).0

pub exchange-requires : goal.exchange-requires
exchange-requires g c =
    let t = c.compare_exchange-ticket.ensures.2.0 c.if-ticket-serving.false in
    let slots = ap (λ m. m.1) t.now in
    (search rules, (Some t.machine, slots ∙ ap (λ l. (0, Some t.machine) ∷ rest l) (sym slots)))

pub invariant_of-self-2 : goal.invariant_of-self-2
invariant_of-self-2 g c =
    let free = idle_of _ _ (ap (λ k. k.taken) c.self.view_is ∙ c.requires.free) c.self.invariant.carries in
    let look = c.load-serving.ensures.2 in
    let looked = c.load-serving.new.seat.me in
    let t = c.compare_exchange-ticket.ensures.2.0 c.if-ticket-serving.false in
    let turns = ap (λ k. k.turns) c.self.view_is in
    let room = c.requires.room in
    at_rest_after_take _ _ _ _ _ _ looked
    (with_ticket looked.0 c.compare_exchange-ticket.result, looked.1) _ _
    (at_rest_after_look _ _ _ _ _ _ _ looked _ c.self.invariant refl refl refl refl refl look) (omega arith) refl
    (taking_at_once _ _ _ looked _ _ _ _ _ (ap (λ m. m.1) look.now
    ∙ free.1) t c.exchange.ensures.2 c.unwrap.ensures c.exchange.ensures.3)

pub returns-clause-ended : goal.returns-clause-ended
returns-clause-ended g c =
    let free = idle_of _ _ (ap (λ k. k.taken) c.self.view_is ∙ c.requires.free) c.self.invariant.carries in
    let look = c.load-serving.ensures.2 in
    let t = c.compare_exchange-ticket.ensures.2.0 c.if-ticket-serving.false in
    let took = taking_at_once _ _ _ _ _ _ _ _ _
    (ap (λ m. m.1) look.now ∙ free.1) t c.exchange.ensures.2 c.unwrap.ensures c.exchange.ensures.3 in
    subst (λ l. KeepsEnded g.M.Machine.seat l (g.M.Machine.history c.unwrap.result)) (ap (λ m. m.0.ended) look.now ∙ ap (λ k. k.ended) c.self.view_is) took.agrees.1

pub returns-clause-served : goal.returns-clause-served
returns-clause-served g c =
    let look = c.load-serving.ensures.2 in
    let t = c.compare_exchange-ticket.ensures.2.0 c.if-ticket-serving.false in
    let took = taking_at_once _ _ _ _ _ _ _ _ _
    (ap (λ m. m.1) look.now ∙ (idle_of _ _ (ap (λ k. k.taken) c.self.view_is ∙ c.requires.free) c.self.invariant.carries).1) t c.exchange.ensures.2
    c.unwrap.ensures c.exchange.ensures.3 in
    subst (LearnsServed c.args.self.now (g.M.Machine.history c.unwrap.result)) (sym (ap (λ m. m.0.look_found) took.now ∙ c.if-ticket-serving.false))
    (learns _ _ _ _ _ _ _ (g.M.Machine.history c.unwrap.result) c.self.invariant
    c.self.view_is look.served (omega (arith, took.entries, c.if-ticket-serving.false)))
