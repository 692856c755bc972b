use Rattle.std.proofs.Common.{ap}
use Rattle.ix_model.specs.world.World.{World}
use Rattle.ix_machine.proofs.Waits.{ended_first}
use Rattle.ix_machine.proofs.machine.Machine.wait_child.Goals as goal

pub collect-requires : goal.collect-requires
collect-requires g c =
    ended_first c.args.self.now c.observe.new.self _ _ c.in-Some.child.0 (ap (λ (w : World). w.frame.processes) c.self.view_is) c.requires.lives c.in_ok-observe.ensures.back c.in-Some.ensures.0
