use Rattle.std.proofs.Common.{refl, ap, ◌∙◌}
use Rattle.ix_model.{specs.world.World.{World, at}, proofs.tables.Tables.seen_changed}
use Rattle.ix_machine.specs.Views.{is_inode}
use Rattle.ix_machine.proofs.machine.Machine.affect.Goals as goal

pub returns-in-Some-2-clause-stand : goal.returns-in-Some-2-clause-stand
returns-in-Some-2-clause-stand g c n = ap (λ (w : World). is_inode (at w.frame.objects n)) c.set_object_label.ensures
    ∙ seen_changed is_inode (λ x. record x { label = c.in-Some-2.label }) (λ x. refl) _ _ n
