use Rattle.std.proofs.Common.{ap}
use Rattle.ix_model.specs.world.World.{World}
use Rattle.ix_machine.proofs.Restoring.{restores_label}
use Rattle.ix_machine.proofs.machine.Machine.observe.Goals as goal

pub returns-in-Ok-Some-clause-back : goal.returns-in-Ok-Some-clause-back
returns-in-Ok-Some-clause-back g c = restores_label _ _ _ _ c.requires (ap (λ (w : World). w.frame) c.set_process_label.ensures)
