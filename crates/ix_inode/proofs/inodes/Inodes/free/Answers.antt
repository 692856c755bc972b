use Rattle.ix_inode.{specs.Volumes.IsSpot, proofs.Laid.{lives_here, files_there, view_gone, laid_gone}}
use Rattle.ix_inode.proofs.inodes.Inodes.free.Goals as goal

pub release-requires-clause-lives : goal.release-requires-clause-lives
release-requires-clause-lives c =
    let spot : IsSpot c.self.inside.volumes.items c.spot_there-spot.result.volume c.spot_there-spot.result.inode c.args.obj.0 = rw c.as_slice.ensures.value at c.spot_there-spot.ensures in
    lives_here _ c.self.invariant _ _ spot.within c.index_mut.ensures.value _ _ spot _ c.self.view_is c.requires

pub release-requires-clause-file : goal.release-requires-clause-file
release-requires-clause-file c =
    let spot : IsSpot c.self.inside.volumes.items c.spot_there-spot.result.volume c.spot_there-spot.result.inode c.args.obj.0 = rw c.as_slice.ensures.value at c.spot_there-spot.ensures in
    files_there _ c.self.invariant _ _ spot.within c.index_mut.ensures.value _ (spot.there _ c.index_mut.ensures.value)

pub invariant_of-self : goal.invariant_of-self
invariant_of-self c =
    let spot : IsSpot c.self.inside.volumes.items c.spot_there-spot.result.volume c.spot_there-spot.result.inode c.args.obj.0 = rw c.as_slice.ensures.value at c.spot_there-spot.ensures in
    rw c.release.ensures (laid_gone _ c.self.invariant _ _ spot.within c.index_mut.ensures.value _ _ spot)

pub returns : goal.returns
returns c =
    let spot : IsSpot c.self.inside.volumes.items c.spot_there-spot.result.volume c.spot_there-spot.result.inode c.args.obj.0 = rw c.as_slice.ensures.value at c.spot_there-spot.ensures in
    rw (← c.self.view_is, c.release.ensures) (view_gone _ c.self.invariant _ _ spot.within c.index_mut.ensures.value _ _ spot)
