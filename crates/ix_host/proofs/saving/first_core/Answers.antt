use Rattle.std.proofs.Common.{List, length, ap, arith, ◌∙◌}
use Rattle.ix_model.{specs.declared.config.FsSpec.FsSpec, proofs.opening.Validity.valid_parts}
use Rattle.ix_host.proofs.saving.first_core.Goals as goal

pub returns-clause-few : goal.returns-clause-few
returns-clause-few c =
    omega (arith, (valid_parts c.in_ok-config.config c.in_ok-config.ensures.valid).fss.few, ap (λ (fss : List FsSpec). length fss) (c.in-Ok.ensures.items ∙ c.as_slice.ensures))
