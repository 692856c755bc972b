use Rattle.std.proofs.Common.{◌∙◌}
use Rattle.ix_model.specs.world.Paths.{path_of}
use Rattle.ix_script.{specs.lines.Before.objects_of, proofs.reader.Making.not_mount}
use Rattle.ix_script.proofs.draft.Draft.is_taken.Goals as goal

pub returns-else-is_mount : goal.returns-else-is_mount
returns-else-is_mount c =
    let fss = c.as_slice.ensures ∙ c.requires.told.header.fss in
    rw (not_mount c.is_mount.result _ _ (path_of c.args.path.now).names c.is_mount.ensures c.if-is_mount.false fss)
    (c.has.ensures (objects_of c.args.self.now.lines.said) c.requires.told.header.made)
