use Rattle.std.proofs.Common.{rules, ap, sym, ◌∙◌, arith, subst}
use Rattle.ix_gate.{specs.{History.KeepsEnded, Seat.LearnsServed}, proofs.{Drawing.draw_allowed, Resting.{idle_of, at_rest_after_take, learns}}}
use Rattle.ix_gate.proofs.seat.Seat.take.Goals as goal

pub fetch_add-ticket-requires : goal.fetch_add-ticket-requires
fetch_add-ticket-requires g c =
    let free = idle_of _ _ (ap (λ k. k.taken) c.self.view_is ∙ c.requires.free) c.self.invariant.carries in
    let turns = c.self.invariant.counted in
    (search rules, search rules, draw_allowed _ _ _ _ _ _ _ _ c.self.inside.number free.0 c.self.invariant.numbered (omega arith))

pub invariant_of-self : goal.invariant_of-self
invariant_of-self g c =
    at_rest_after_take _ _ _ _ _ c.fetch_add-ticket.result _ _ _ _ c.self.invariant c.if-self-ge-MOST_TURNS.false c.fetch_add-ticket.ensures.2.0 c.await_turn.ensures.taken

pub returns-clause-ended : goal.returns-clause-ended
returns-clause-ended g c =
    subst (λ l. KeepsEnded g.M.Machine.seat l (g.M.Machine.history c.await_turn.result)) (ap (λ m. m.0.ended) c.fetch_add-ticket.ensures.2.0
    ∙ ap (λ k. k.ended) c.self.view_is) c.await_turn.ensures.taken.agrees.1

pub returns-clause-served : goal.returns-clause-served
returns-clause-served g c =
    let took = c.await_turn.ensures.taken in
    let drew = c.fetch_add-ticket.ensures.2 in
    let found = ap (λ m. m.0.look_found) took.now ∙ ap (λ m. m.0.ticket) drew.0 in
    subst (LearnsServed c.args.self.now (g.M.Machine.history c.await_turn.result)) (sym found)
    (learns g.M.Machine.seat _ _ _ c.fetch_add-ticket.result c.self.inside.token.me c.args.self.now (g.M.Machine.history c.await_turn.result) c.self.invariant
    c.self.view_is drew.1 (omega (arith, took.entries, ap (λ m. m.0.ticket) drew.0)))
