use Rattle.std.proofs.Common.{◌≡◌, ◌∙◌, Bool, true, is_some, Result, Ok, Err, if◌then◌else◌, sym, ap}
use Rattle.ix_model.specs.world.{World.at, Contents.cut_to}
use Rattle.ix_blocks.specs.{Files.{bytes_of, has_room}, declared.blocks.NoSpace.NoSpace}
use Rattle.ix_inode.specs.{Nodes.{bytes_at, has_space, holding}, Volumes.IsSpot}
use Rattle.ix_inode.proofs.Laid.{view_bytes, view_space, view_held, laid_held, lives_here, file_lives}
use Rattle.ix_inode.proofs.inodes.Inodes.cut.Goals as goal

pub invariant_of-self : goal.invariant_of-self
invariant_of-self c =
    let spot : IsSpot c.self.inside.volumes.items c.spot_there-spot.result.volume c.spot_there-spot.result.inode c.args.obj.0 = rw c.as_slice.ensures.value at c.spot_there-spot.ensures in
    let lives : is_some (at c.index_mut.result.now.nodes c.spot_there-spot.result.inode) ≡ true =
    lives_here _ c.self.invariant _ _ spot.within c.index_mut.ensures.value _ _ spot _ c.self.view_is
    (file_lives c.args.obj.0 c.args.self.now c.requires.file) in
    laid_held _ c.self.invariant _ _ spot.within c.index_mut.ensures.value _ _ spot _ _ _ lives c.cut.ensures.bytes

pub returns-clause-room : goal.returns-clause-room
returns-clause-room c =
    let spot : IsSpot c.self.inside.volumes.items c.spot_there-spot.result.volume c.spot_there-spot.result.inode c.args.obj.0 = rw c.as_slice.ensures.value at c.spot_there-spot.ensures in
    let lives : is_some (at c.index_mut.result.now.nodes c.spot_there-spot.result.inode) ≡ true =
    lives_here _ c.self.invariant _ _ spot.within c.index_mut.ensures.value _ _ spot _ c.self.view_is
    (file_lives c.args.obj.0 c.args.self.now c.requires.file) in
    let space : has_room c.spot_there-spot.result.inode c.args.len c.index_mut.result.now.blocks ≡ has_space c.args.obj.0 c.args.len c.args.self.now =
    view_space _ c.self.invariant _ _ spot.within c.index_mut.ensures.value _ _ c.args.len spot lives
    ∙ ap (has_space c.args.obj.0 c.args.len) c.self.view_is in
    let answer : Bool → Result (Unit {0}) NoSpace = λ b. if b then Ok tt else Err (record {}) in
    c.cut.ensures.room ∙ ap answer space

pub returns-clause-bytes : goal.returns-clause-bytes
returns-clause-bytes c =
    let spot : IsSpot c.self.inside.volumes.items c.spot_there-spot.result.volume c.spot_there-spot.result.inode c.args.obj.0 = rw c.as_slice.ensures.value at c.spot_there-spot.ensures in
    let lives : is_some (at c.index_mut.result.now.nodes c.spot_there-spot.result.inode) ≡ true =
    lives_here _ c.self.invariant _ _ spot.within c.index_mut.ensures.value _ _ spot _ c.self.view_is
    (file_lives c.args.obj.0 c.args.self.now c.requires.file) in
    let bytes : bytes_of c.spot_there-spot.result.inode c.index_mut.result.now.blocks ≡ bytes_at c.args.obj.0 c.args.self.now =
    sym (view_bytes _ c.self.invariant _ _ spot.within c.index_mut.ensures.value _ _ spot) ∙ ap (bytes_at c.args.obj.0) c.self.view_is in
    let space : has_room c.spot_there-spot.result.inode c.args.len c.index_mut.result.now.blocks ≡ has_space c.args.obj.0 c.args.len c.args.self.now =
    view_space _ c.self.invariant _ _ spot.within c.index_mut.ensures.value _ _ c.args.len spot lives
    ∙ ap (has_space c.args.obj.0 c.args.len) c.self.view_is in
    view_held _ c.self.invariant _ _ spot.within c.index_mut.ensures.value _ _ spot _ _ _ c.cut.ensures.bytes
    ∙ (λ i. if space i then holding c.args.obj.0 (cut_to c.args.len (bytes i)) (c.self.view_is i) else c.self.view_is i)
