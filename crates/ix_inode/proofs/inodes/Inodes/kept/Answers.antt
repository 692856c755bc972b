use Rattle.std.proofs.Common.{◌∙◌, sym}
use Rattle.ix_inode.{specs.Volumes.IsSpot, proofs.Laid.view_at}
use Rattle.ix_inode.proofs.inodes.Inodes.kept.Goals as goal

pub returns : goal.returns
returns c =
    let spot : IsSpot c.self.inside.volumes.items c.in_ok-spot.spot.volume c.in_ok-spot.spot.inode c.args.obj.0 = rw c.as_slice.ensures.value at c.in_ok-spot.ensures in
    rw (← c.self.view_is) (c.get.ensures ∙ sym (view_at _ c.self.invariant _ _ spot.within c.index.ensures _ _ spot))
