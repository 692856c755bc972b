use Rattle.ix_tables.proofs.Telling.{not_pipe}
use Rattle.ix_tables.proofs.row.ObjectRow.is_pipe.Goals as goal

pub returns-in_default : goal.returns-in_default
returns-in_default c = not_pipe _ c.in_default.not-Pipe
