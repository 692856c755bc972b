use Rattle.ix_machine.proofs.Landing.{landed}
use Rattle.ix_machine.proofs.machine.Machine.object_at.Goals as goal

pub returns-in-Found-clause-inode : goal.returns-in-Found-clause-inode
returns-in-Found-clause-inode g c = landed _ _ _ _ _ c.in-Found.obj.0 _ c.requires.sound c.in_ok-obj.ensures.row c.in-Found.is
