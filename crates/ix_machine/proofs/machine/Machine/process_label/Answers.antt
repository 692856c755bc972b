use Rattle.std.proofs.Common.{◌∙◌, Some, None}
use Rattle.ix_machine.proofs.Standing.{process_label_is}
use Rattle.ix_machine.proofs.machine.Machine.process_label.Goals as goal

pub returns-in-Some : goal.returns-in-Some
returns-in-Some c = process_label_is c.self.inside.files c.self.inside.procs c.self.inside.log _ c.self.view_is _ (Some c.in-Some.shown) c.in-Some.ensures

pub returns-in-None : goal.returns-in-None
returns-in-None c = c.bottom.ensures ∙ process_label_is c.self.inside.files c.self.inside.procs c.self.inside.log _ c.self.view_is _ None c.in-None.ensures
