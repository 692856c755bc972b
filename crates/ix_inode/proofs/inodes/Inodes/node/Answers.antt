use Rattle.std.proofs.Common.{◌∙◌}
use Rattle.ix_inode.{specs.Volumes.IsSpot, proofs.Laid.{lives_here, view_at, below_here}}
use Rattle.ix_inode.proofs.inodes.Inodes.node.Goals as goal

pub node-requires : goal.node-requires
node-requires c =
    let spot : IsSpot c.self.inside.volumes.items c.spot_there-spot.result.volume c.spot_there-spot.result.inode c.args.obj.0 = rw c.as_slice.ensures.value at c.spot_there-spot.ensures in
    lives_here _ c.self.invariant _ _ spot.within c.index.ensures _ _ spot _ c.self.view_is c.requires

pub returns-clause-node : goal.returns-clause-node
returns-clause-node c =
    let spot : IsSpot c.self.inside.volumes.items c.spot_there-spot.result.volume c.spot_there-spot.result.inode c.args.obj.0 = rw c.as_slice.ensures.value at c.spot_there-spot.ensures in
    rw (← c.self.view_is) (view_at _ c.self.invariant _ _ spot.within c.index.ensures _ _ spot ∙ c.node.ensures)

pub returns-clause-below : goal.returns-clause-below
returns-clause-below c =
    let spot : IsSpot c.self.inside.volumes.items c.spot_there-spot.result.volume c.spot_there-spot.result.inode c.args.obj.0 = rw c.as_slice.ensures.value at c.spot_there-spot.ensures in
    rw (← c.self.view_is) (below_here _ c.self.invariant _ _ spot.within c.index.ensures _ _ spot _ c.node.ensures)
