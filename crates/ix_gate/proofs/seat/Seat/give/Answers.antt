use Rattle.std.proofs.Common.{rules, ℕ, ◌∷◌, Some, ap, sym, ◌∙◌, subst}
use Rattle.atomic_table.specs.Table.{rest}
use Rattle.ix_gate.{specs.History.Grows, proofs.{Passing.pass_on_allowed, Resting.{holds_of, at_rest_after_give}}}
use Rattle.ix_gate.proofs.seat.Seat.give.Goals as goal

pub fetch_add-requires : goal.fetch_add-requires
fetch_add-requires g c =
    let h = c.requires.history in
    let v = c.self.view_is in
    let had = holds_of _ _ h.0 (ap (λ k. k.taken) v ∙ h.1) c.self.invariant.carries in
    let put = c.exchange.ensures.3 in (
      search rules,
      search rules,
      pass_on_allowed _ _ _ _ _ _ _ _ c.self.inside.number c.args.machine h.0 (ap (λ m. m.0.role) put ∙ c.self.invariant.numbered) (ap (λ m. m.0.stage) put ∙ had.0)
          (ap (λ m. m.1) put ∙ ap (λ l. (0, Some c.args.machine) ∷ rest l) had.1)
          (ap (λ m. m.0.base) put ∙ (ap (λ k. k.base) v ∙ c.requires.base))
          (subst (λ (z : ℕ). Grows g.M.Machine.seat z h.0 (g.M.Machine.history c.args.machine)) (sym (ap (λ k. k.number) v)) h.2),
    )

pub invariant_of-self : goal.invariant_of-self
invariant_of-self g c =
    let h = c.requires.history in
    let had = holds_of _ _ h.0 (ap (λ k. k.taken) c.self.view_is ∙ h.1) c.self.invariant.carries in
    let put = c.exchange.ensures.3 in
    let gave = c.fetch_add.ensures.2 c.args.machine (ap (λ m. m.1) put ∙ ap (λ l. (0, Some c.args.machine) ∷ rest l) had.1) in
    at_rest_after_give g.M.Machine.base g.M.Machine.history g.M.Machine.seat _ _ c.self.inside.token.me c.exchange.new.seat.me c.fetch_add.new.seat.me
    c.args.machine c.self.invariant (ap (λ m. m.0) put) gave.0 gave.1
