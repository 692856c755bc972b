use Rattle.ix_machine.proofs.Standing.{target_left}
use Rattle.ix_machine.proofs.machine.Machine.target.Goals as goal

pub returns-in_default : goal.returns-in_default
returns-in_default g c = target_left _ _ _ c.in_default.not-WriteFd c.in_default.not-CutFd c.in_default.not-SetLabel c.in_default.not-Freeze c.in_default.not-SetPriv
