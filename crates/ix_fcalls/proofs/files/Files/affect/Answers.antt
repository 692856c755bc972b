use Rattle.std.proofs.Common.{ap, map, is_some, ◌∙◌}
use Rattle.ix_model.specs.world.Owners.{names_in_all}
use Rattle.ix_tables.specs.Parts.{Parts}
use Rattle.ix_fcalls.proofs.Relabelling.{names_relabelled, standing_relabelled}
use Rattle.ix_fcalls.proofs.files.Files.affect.Goals as goal

pub returns-in-Some-2-clause-names : goal.returns-in-Some-2-clause-names
returns-in-Some-2-clause-names g c = ap (λ (v : Parts). names_in_all v.objects) c.set_label.ensures ∙ names_relabelled c.self.inside.tables.objects c.args.object c.in-Some-2.label ∙ ap
    (λ (v : Parts). names_in_all v.objects) c.self.view_is

pub returns-in-Some-2-clause-stand : goal.returns-in-Some-2-clause-stand
returns-in-Some-2-clause-stand g c = ap (λ v. map is_some v.objects) c.set_label.ensures
    ∙ standing_relabelled _ _ _ ∙ ap (λ v. map is_some v.objects) c.self.view_is
