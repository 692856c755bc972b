use Rattle.std.proofs.Common.{◌≡◌, true, ◌∙◌, sym, ap, subst}
use Rattle.ix_label.specs.Category.{leq}
use Rattle.ix_inode.specs.{Nodes.{Nodes, fs_ceiling}, Volumes.{IsSpot, nodes_of}}
use Rattle.ix_inode.proofs.Laid.{lives_here, lives_by, fs_here, view_node, view_ceiling, laid_node}
use Rattle.ix_inode.proofs.inodes.Inodes.set.Goals as goal

pub set-requires : goal.set-requires
set-requires c =
    let spot : IsSpot c.self.inside.volumes.items c.spot_there-spot.result.volume c.spot_there-spot.result.inode c.args.obj.0 = rw c.as_slice.ensures.value at c.spot_there-spot.ensures in
    lives_here _ c.self.invariant _ _ spot.within c.index_mut.ensures.value _ _ spot _ c.self.view_is (lives_by _ _ c.requires.there)

pub invariant_of-self : goal.invariant_of-self
invariant_of-self c =
    let spot : IsSpot c.self.inside.volumes.items c.spot_there-spot.result.volume c.spot_there-spot.result.inode c.args.obj.0 = rw c.as_slice.ensures.value at c.spot_there-spot.ensures in
    let fs : c.args.node.fs ≡ c.spot_there-spot.result.volume = fs_here _ c.self.invariant _ _ spot.within c.index_mut.ensures.value _ _ spot _ _ c.self.view_is c.requires.there in
    let below : leq c.args.node.label (fs_ceiling c.args.node.fs (nodes_of c.self.inside.volumes.items)) ≡ true = let P : Nodes → Type 0 =
    λ s. leq c.args.node.label (fs_ceiling c.args.node.fs s) ≡ true in subst P (sym c.self.view_is) c.requires.below in
    let under : leq c.args.node.label c.index_mut.result.now.spec.ceiling ≡ true =
    ap (leq c.args.node.label) (sym (view_ceiling _ c.self.invariant _ _ spot.within c.index_mut.ensures.value))
    ∙ ap (λ k. leq c.args.node.label (fs_ceiling k (nodes_of c.self.inside.volumes.items))) (sym fs) ∙ below in
    rw c.set.ensures (laid_node _ c.self.invariant _ _ spot.within c.index_mut.ensures.value _ _ spot c.args.node fs under)

pub returns : goal.returns
returns c =
    let spot : IsSpot c.self.inside.volumes.items c.spot_there-spot.result.volume c.spot_there-spot.result.inode c.args.obj.0 = rw c.as_slice.ensures.value at c.spot_there-spot.ensures in
    rw (← c.self.view_is, c.set.ensures) (view_node _ c.self.invariant _ _ spot.within c.index_mut.ensures.value _ _ spot c.args.node)
