use Rattle.std.proofs.Common.{◌≡◌, ◌∙◌, ℕ, true, sym, subst}
use Rattle.ix_model.specs.{world.World.{World, lives}, history.Calls.op_of}
use Rattle.ix_fcalls.specs.{Around.with_who, Tested.IsKnown}
use Rattle.ix_machine.proofs.{Knowing.known_lives, Moved.{moved_still, parts_joined}}
use Rattle.ix_machine.proofs.machine.Machine.filed_known.Goals as goal

pub who-requires : goal.who-requires
who-requires g c = subst (λ (u : World). lives u.frame c.args.pid.0 ≡ true) (sym c.requires.0) (known_lives g.moment.world.frame _ _ c.requires.1.1.1)

pub call_fresh-requires : goal.call_fresh-requires
call_fresh-requires g c =
    let w = g.moment.world in
    let known : IsKnown w.frame c.who.result.now.pid.0 (op_of c.args.call.now) = subst (λ (n : ℕ). IsKnown w.frame n (op_of c.args.call.now)) (sym c.who.ensures.pid) c.requires.1.1.1 in
    let parts = parts_joined _ _ _ w c.self.invariant (c.self.view_is ∙ c.requires.0) in
    let shown : with_who w.frame.processes c.who.result.now ≡ w.frame.processes =
    subst (λ (u : World). with_who u.frame.processes c.who.result.now ≡ u.frame.processes) c.requires.0 c.who.ensures.shown in
    let alive = known_lives w.frame _ _ known in
    (known, (c.requires.1.1.0, (parts, (shown, alive))))

pub invariant_of-self : goal.invariant_of-self
invariant_of-self g c =
    moved_still _ _ _ _ _ _ _ _ _ (c.self.view_is ∙ c.requires.0) c.self.invariant c.call_fresh.ensures.parts (subst (λ (u : World). with_who u.frame.processes c.who.result.now
    ≡ u.frame.processes) c.requires.0 c.who.ensures.shown) c.call_fresh.ensures.step.world
