use Rattle.std.proofs.Common.{ℕ, Option, ◌+◌, ◌<◌, ◌∙◌, sym, ap, length, option_map}
use Rattle.ix_inode.proofs.Laid.{low_is, view_vacant, fits_here}
use Rattle.ix_inode.proofs.inodes.Inodes.vacant.Goals as goal

pub object_of-requires : goal.object_of-requires
object_of-requires c =
    let low : c.args.fs < length c.self.inside.volumes.items = low_is _ _ _ c.self.view_is c.requires in
    fits_here _ c.self.invariant _ _ low c.index-volume.ensures _ c.vacant.ensures

pub returns : goal.returns
returns c =
    let low : c.args.fs < length c.self.inside.volumes.items = low_is _ _ _ c.self.view_is c.requires in
    rw (← c.self.view_is) (c.object_of.ensures ∙ ap (λ (p : Option ℕ). option_map (λ n. c.index-volume.result.now.first + n) p) c.vacant.ensures
    ∙ sym (view_vacant _ c.self.invariant _ _ low c.index-volume.ensures))
