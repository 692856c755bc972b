use Rattle.std.proofs.Common.{◌≡◌, ◌++◌, ◌∙◌, ℕ, List, length, take, drop, min, sym, ap}
use Rattle.ix_blocks.specs.Files.{bytes_of}
use Rattle.ix_inode.{specs.{Nodes.bytes_at, Volumes.IsSpot}, proofs.Laid.view_bytes}
use Rattle.ix_inode.proofs.inodes.Inodes.read.Goals as goal

pub returns-clause-count : goal.returns-clause-count
returns-clause-count c =
    let spot : IsSpot c.self.inside.volumes.items c.spot_there-spot.result.volume c.spot_there-spot.result.inode c.args.obj.0 = rw c.as_slice.ensures.value at c.spot_there-spot.ensures in
    let bytes : bytes_of c.spot_there-spot.result.inode c.index.result.now.blocks ≡ bytes_at c.args.obj.0 c.args.self.now =
    sym (view_bytes _ c.self.invariant _ _ spot.within c.index.ensures _ _ spot) ∙ ap (bytes_at c.args.obj.0) c.self.view_is in
    c.read.ensures.count ∙ ap (λ (bs : List ℕ). min (length c.args.out.now) (length (drop c.args.at bs))) bytes

pub returns-clause-out : goal.returns-clause-out
returns-clause-out c =
    let spot : IsSpot c.self.inside.volumes.items c.spot_there-spot.result.volume c.spot_there-spot.result.inode c.args.obj.0 = rw c.as_slice.ensures.value at c.spot_there-spot.ensures in
    let bytes : bytes_of c.spot_there-spot.result.inode c.index.result.now.blocks ≡ bytes_at c.args.obj.0 c.args.self.now =
    sym (view_bytes _ c.self.invariant _ _ spot.within c.index.ensures _ _ spot) ∙ ap (bytes_at c.args.obj.0) c.self.view_is in
    c.read.ensures.out ∙ ap (λ (bs : List ℕ). take c.read.result (drop c.args.at bs) ++ drop c.read.result c.args.out.now) bytes
