use Rattle.std.{proofs.Common.{◌≡◌, Some, refl, ap, sym, ◌∙◌, subst, arith, IsSome}, specs.Prelude.All}
use Rattle.ix_gate.{specs.{Gate.GateState, Seat.StandsFor}, proofs.Closing.closes}
use Rattle.ix_gate.proofs.gate.Gate.close.Goals as goal

pub unwrap-machine-requires : goal.unwrap-machine-requires
unwrap-machine-requires g c =
    let left = closes g.M.Machine.base g.M.Machine.history g.M.Machine.seat _ _ _ _ _ _ _ _ _ _ _ c.close_with-closed.ensures.values.2 c.seat.invariant c.seat.view_is c.requires.free
    (λ n l. c.requires.all n (let w = ap (λ (x : GateState). x.seats) c.self.view_is in omega arith)) c.take.ensures.value in
    subst (λ o. IsSome o) (sym left.1) refl

pub returns : goal.returns
returns g c =
    let left = closes g.M.Machine.base g.M.Machine.history g.M.Machine.seat _ _ _ _ _ _ _ _ _ _ _ c.close_with-closed.ensures.values.2 c.seat.invariant c.seat.view_is c.requires.free
    (λ n l. c.requires.all n (let w = ap (λ (x : GateState). x.seats) c.self.view_is in omega arith)) c.take.ensures.value in
    let same : left.0 ≡ c.unwrap-machine.result = cc (left.1, c.unwrap-machine.ensures) in
    record {
      base = left.2 ∙ ap (λ x. Some (g.M.Machine.base x)) same;
      history = ap g.M.Machine.history (sym same) ∙ left.3;
      entries = subst (λ x. All (λ e. StandsFor c.args.seat (g.M.Machine.seat e)) (g.M.Machine.history x)) same left.4;
    }
