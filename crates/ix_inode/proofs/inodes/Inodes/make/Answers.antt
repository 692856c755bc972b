use Rattle.std.proofs.Common.{ℕ, Option, ◌+◌, ◌<◌, ◌∙◌, sym, ap, length, option_map}
use Rattle.ix_inode.proofs.Laid.{low_is, view_vacant, view_made, laid_made, fits_here}
use Rattle.ix_inode.proofs.inodes.Inodes.make.Goals as goal

pub invariant_of-self : goal.invariant_of-self
invariant_of-self c =
    let low : c.args.fs < length c.self.inside.volumes.items = low_is _ _ _ c.self.view_is c.requires in
    rw (c.take.ensures.taken, c.new.ensures) (laid_made _ c.self.invariant _ _ low c.index_mut-volume.ensures.value c.is_dir.result c.take.result c.take.ensures.number)

pub object_of-requires : goal.object_of-requires
object_of-requires c =
    let low : c.args.fs < length c.self.inside.volumes.items = low_is _ _ _ c.self.view_is c.requires in
    fits_here _ c.self.invariant _ _ low c.index_mut-volume.ensures.value _ c.take.ensures.number

pub returns-clause-number : goal.returns-clause-number
returns-clause-number c =
    let low : c.args.fs < length c.self.inside.volumes.items = low_is _ _ _ c.self.view_is c.requires in
    rw (← c.self.view_is) (c.object_of.ensures ∙ ap (λ (p : Option ℕ). option_map (λ n. c.index_mut-volume.result.now.first + n) p) c.take.ensures.number
    ∙ sym (view_vacant _ c.self.invariant _ _ low c.index_mut-volume.ensures.value))

pub returns-clause-made : goal.returns-clause-made
returns-clause-made c =
    let low : c.args.fs < length c.self.inside.volumes.items = low_is _ _ _ c.self.view_is c.requires in
    rw (← c.self.view_is, c.take.ensures.taken, c.new.ensures, ← c.is_dir.ensures) (view_made _ c.self.invariant _ _ low c.index_mut-volume.ensures.value
    c.is_dir.result c.take.result c.take.ensures.number)
