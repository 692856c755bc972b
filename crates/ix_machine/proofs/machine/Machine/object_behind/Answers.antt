use Rattle.std.proofs.Common.{Some, None}
use Rattle.ix_model.specs.rows.Walks.{behind}
use Rattle.ix_machine.proofs.Standing.{object_in}
use Rattle.ix_machine.proofs.machine.Machine.object_behind.Goals as goal

pub returns-in-Some : goal.returns-in-Some
returns-in-Some c = object_in (Some (c.in-Some.field-0-0, c.in-Some.obj)) (behind c.args.self.now.frame c.args.pid.0 c.args.fd.0) c.in-Some.ensures

pub returns-in-None : goal.returns-in-None
returns-in-None c = object_in None (behind c.args.self.now.frame c.args.pid.0 c.args.fd.0) c.in-None.ensures
