use Rattle.std.proofs.Common.{sym}
use Rattle.ix_proc.proofs.Found.{next_is}
use Rattle.ix_proc.proofs.procs.Procs.next_pid.Goals as goal

pub returns : goal.returns
returns c = sym (next_is _ _ _ _ c.self.invariant.0 _ c.self.view_is)
