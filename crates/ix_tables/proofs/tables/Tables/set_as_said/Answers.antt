use Rattle.ix_tables.proofs.OpeningLines.{said}
use Rattle.ix_tables.proofs.tables.Tables.set_as_said.Goals as goal

pub returns : goal.returns
returns c = said c.args.self.now c.set_label.new.self c.set_frozen.new.self c.set_privs.new.self c.args.spec.now c.args.n c.set_label.ensures c.set_frozen.ensures c.set_privs.ensures
