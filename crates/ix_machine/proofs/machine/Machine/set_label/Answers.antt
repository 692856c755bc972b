use Rattle.ix_machine.proofs.Lowering.{below_ceiling}
use Rattle.ix_machine.proofs.machine.Machine.set_label.Goals as goal

pub movable-requires-clause-below : goal.movable-requires-clause-below
movable-requires-clause-below g c = below_ceiling _ _ _ c.in_ok-obj.x c.requires.sound c.in_ok-obj.ensures.rest c.in_ok-obj.ensures.object c.in_ok-obj.ensures.ceiling
