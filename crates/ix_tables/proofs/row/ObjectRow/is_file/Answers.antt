use Rattle.ix_tables.proofs.Telling.{not_file}
use Rattle.ix_tables.proofs.row.ObjectRow.is_file.Goals as goal

pub returns-in_default : goal.returns-in_default
returns-in_default c = not_file _ c.in_default.not-File
