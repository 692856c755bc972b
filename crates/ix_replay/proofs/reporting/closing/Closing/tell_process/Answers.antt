use Rattle.std.proofs.Common.{arith}
use Rattle.ix_replay.proofs.piecewise.Pieces.{process_told, processes_told}
use Rattle.ix_replay.proofs.reporting.closing.Closing.tell_process.Goals as goal

pub returns-then-pid-next_pid : goal.returns-then-pid-next_pid
returns-then-pid-next_pid c = processes_told c.args.self.now _ _ _ c.requires (omega (arith, c.next_pid.ensures, c.if-pid-next_pid.true)) c.in_ok-push_heading.ensures

pub returns : goal.returns
returns c = process_told c.args.self.now _ _ _ c.requires (omega (arith, c.next_pid.ensures, c.if-pid-next_pid.false)) c.in_ok-push_process.ensures
