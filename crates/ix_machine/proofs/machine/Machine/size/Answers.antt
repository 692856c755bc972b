use Rattle.std.proofs.Common.{◌∙◌}
use Rattle.ix_machine.proofs.Viewing.{size_is}
use Rattle.ix_machine.proofs.machine.Machine.size.Goals as goal

pub returns : goal.returns
returns c = c.size.ensures ∙ size_is _ c.self.inside.procs c.self.inside.log _ c.self.view_is _ _
