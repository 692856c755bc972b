use Rattle.std.proofs.Common.{List, length, ap, arith}
use Rattle.ix_model.{specs.declared.config.FsSpec.FsSpec, proofs.opening.Validity.valid_parts}
use Rattle.ix_image.proofs.saving.save.Goals as goal

pub new-requires : goal.new-requires
new-requires c = omega (arith, (valid_parts c.args.config.now c.requires.valid).fss.few, ap (λ (fss : List FsSpec). length fss) c.as_slice.ensures)
