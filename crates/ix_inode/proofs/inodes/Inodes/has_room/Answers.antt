use Rattle.std.proofs.Common.{◌≡◌, ◌∙◌, true, is_some, ap}
use Rattle.ix_model.specs.world.World.{at}
use Rattle.ix_blocks.specs.Files.{has_room}
use Rattle.ix_inode.{specs.{Nodes.has_space, Volumes.IsSpot}, proofs.Laid.{view_space, lives_here, file_lives}}
use Rattle.ix_inode.proofs.inodes.Inodes.has_room.Goals as goal

pub returns : goal.returns
returns c =
    let spot : IsSpot c.self.inside.volumes.items c.spot_there-spot.result.volume c.spot_there-spot.result.inode c.args.obj.0 = rw c.as_slice.ensures.value at c.spot_there-spot.ensures in
    let lives : is_some (at c.index.result.now.nodes c.spot_there-spot.result.inode) ≡ true =
    lives_here _ c.self.invariant _ _ spot.within c.index.ensures _ _ spot _ c.self.view_is (file_lives c.args.obj.0 c.args.self.now c.requires.file) in
    let space : has_room c.spot_there-spot.result.inode c.args.len c.index.result.now.blocks ≡ has_space c.args.obj.0 c.args.len c.args.self.now =
    view_space _ c.self.invariant _ _ spot.within c.index.ensures _ _ c.args.len spot lives ∙ ap (has_space c.args.obj.0 c.args.len) c.self.view_is in
    c.has_room.ensures ∙ space
