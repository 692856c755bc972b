use Rattle.std.proofs.Common.{subst}
use Rattle.ix_host.specs.Policies.{IsPolicy}
use Rattle.ix_host.proofs.preparing.script_task.Goals as goal

pub accepted_task-requires-clause-accepted : goal.accepted_task-requires-clause-accepted
accepted_task-requires-clause-accepted g c = (subst (λ a. IsPolicy c.args.script a) c.in-Ok-Rules.field-0-is c.in-Ok-Rules.ensures).0
