use Rattle.std.proofs.Common.{◌≡◌, ◌+◌, ℕ, Option, option_map, sym, ap, subst}
use Rattle.ix_model.specs.world.World.{fs_at}
use Rattle.ix_inode.{specs.{declared.node.Node.Node, Nodes.{Nodes, blocks_of, free_blocks}, Volumes.{IsSpot, nodes_of}}, proofs.Laid.{view_counted, fs_here}}
use Rattle.ix_inode.proofs.inodes.Inodes.lemma_blocks_add_up.Goals as goal

pub returns : goal.returns
returns c x there =
    let spot : IsSpot c.self.inside.volumes.items c.spot_there-spot.result.volume c.spot_there-spot.result.inode c.args.obj.0 = rw c.as_slice.ensures.value at c.spot_there-spot.ensures in
    let fs : x.fs ≡ c.spot_there-spot.result.volume = fs_here _ c.self.invariant _ _ spot.within c.index.ensures _ _ spot x.fs c.args.self.now c.self.view_is
    (ap (λ (o : Option Node). option_map (λ y. y.fs) o) there) in
    let P : Nodes → ℕ → Type 0 = λ s k. blocks_of k s.nodes s.bytes + free_blocks k s ≡ (fs_at s.fss k).blocks in
    subst (λ s. P s x.fs) c.self.view_is (subst (P (nodes_of c.self.inside.volumes.items)) (sym fs) (view_counted _ c.self.invariant _ _ spot.within c.index.ensures c.free.result c.free.ensures))
