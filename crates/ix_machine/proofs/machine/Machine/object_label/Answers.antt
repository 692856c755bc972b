use Rattle.std.proofs.Common.{◌∙◌}
use Rattle.ix_machine.proofs.Standing.{object_label_is}
use Rattle.ix_machine.proofs.machine.Machine.object_label.Goals as goal

pub returns : goal.returns
returns c = c.label_of.ensures ∙ object_label_is c.self.inside.files c.self.inside.procs c.self.inside.log _ c.self.view_is _
