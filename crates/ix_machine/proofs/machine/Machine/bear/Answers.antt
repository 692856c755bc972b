use Rattle.std.proofs.Common.{ap, ◌∙◌}
use Rattle.ix_model.specs.world.World.{World, at, living}
use Rattle.ix_machine.proofs.Births.{may_bear, born_joined, parent_of}
use Rattle.ix_machine.proofs.machine.Machine.bear.Goals as goal

pub add_child-requires : goal.add_child-requires
add_child-requires c = may_bear _ _ _ _ _ _ c.self.view_is c.self.invariant c.requires.sound c.requires.few c.requires.kept

pub invariant_of-self : goal.invariant_of-self
invariant_of-self c =
    let p = parent_of _ (living (at c.args.self.now.frame.processes c.args.pid.0)) c.requires.kept in
    born_joined _ _ _ _ _ _ _ c.self.invariant
    (c.add_child.ensures.adds p.0 (ap (λ (w : World). living (at w.frame.processes c.args.pid.0)) c.self.view_is ∙ p.1)) c.add_child.ensures.counted c.add_child.ensures.rest
