use Rattle.ix_machine.proofs.Standing.{entry_left}
use Rattle.ix_machine.proofs.machine.Machine.entry_target.Goals as goal

pub returns-in_default : goal.returns-in_default
returns-in_default c = entry_left _ _ _ c.in_default.not-ReadFd c.in_default.not-WriteFd c.in_default.not-SeekFd
