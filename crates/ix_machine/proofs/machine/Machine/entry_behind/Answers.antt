use Rattle.std.proofs.Common.{Some, None}
use Rattle.ix_model.specs.rows.Walks.{behind}
use Rattle.ix_machine.proofs.Standing.{entry_in}
use Rattle.ix_machine.proofs.machine.Machine.entry_behind.Goals as goal

pub returns-in-Some : goal.returns-in-Some
returns-in-Some c = entry_in (Some (c.in-Some.id, c.in-Some.field-0-1)) (behind c.args.self.now.frame c.args.pid.0 c.args.fd.0) c.in-Some.ensures

pub returns-in-None : goal.returns-in-None
returns-in-None c = entry_in None (behind c.args.self.now.frame c.args.pid.0 c.args.fd.0) c.in-None.ensures
