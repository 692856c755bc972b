use Rattle.ix_replay.proofs.piecewise.NextLine.{log_some, object_some, process_some}
use Rattle.ix_replay.proofs.reporting.closing.Closing.is_told.Goals as goal

pub returns-in-Object-clause-left : goal.returns-in-Object-clause-left
returns-in-Object-clause-left c going = object_some c.args.self.now c.in-Object.field-0 c.in-Object.is

pub returns-in-Process-clause-left : goal.returns-in-Process-clause-left
returns-in-Process-clause-left c going = process_some c.args.self.now c.in-Process.field-0 c.in-Process.is

pub returns-in-Log-clause-left : goal.returns-in-Log-clause-left
returns-in-Log-clause-left c going = log_some c.args.self.now c.in-Log.field-0 c.in-Log.is
