use Rattle.std.proofs.Common.{ap, sym, ◌∙◌}
use Rattle.ix_model.specs.{rows.Telling.nothing_told, world.World.World}
use Rattle.ix_machine.proofs.{Restoring.set_back, Stepped.{label_of_caller, settled_back}}
use Rattle.ix_machine.proofs.machine.Machine.decide.Goals as goal

pub returns-else-keeps_label-clause-frame : goal.returns-else-keeps_label-clause-frame
returns-else-keeps_label-clause-frame g c =
    set_back _ _ _ _ _ c.in-Err.ensures.back (label_of_caller c.args.self.now.frame.processes c.args.pid.0 c.who.result.now c.who.ensures.living)
    (ap (λ (w : World). w.frame) c.set_process_label.ensures)
    ∙ sym (settled_back nothing_told _ _ _ _ _ _ c.requires.lives c.in-Err.ensures.row (sym c.keeps_label.ensures ∙ c.if-keeps_label.false))
