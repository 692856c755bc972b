use Rattle.ix_tables.proofs.Telling.{not_dir}
use Rattle.ix_tables.proofs.row.ObjectRow.is_dir.Goals as goal

pub returns-in_default : goal.returns-in_default
returns-in_default c = not_dir _ c.in_default.not-Dir
