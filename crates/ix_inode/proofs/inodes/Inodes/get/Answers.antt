use Rattle.std.proofs.Common.{◌≡◌, ◌∙◌, ℕ, Some, sym, ap, option_map}
use Rattle.ix_label.specs.Category.{leq}
use Rattle.ix_inode.{specs.{Shown.told, Nodes.told_at, Volumes.{IsSpot, nodes_of}, declared.node.Inode.Inode}, proofs.Laid.{view_at, view_told, below_spec}}
use Rattle.ix_inode.proofs.inodes.Inodes.get.Goals as goal

pub returns-in_err-node-clause-told : goal.returns-in_err-node-clause-told
returns-in_err-node-clause-told c =
    let spot : IsSpot c.self.inside.volumes.items c.in_ok-spot.spot.volume c.in_ok-spot.spot.inode c.args.obj.0 = rw c.as_slice.ensures.value at c.in_ok-spot.ensures in
    c.from_residual-in_err-node.ensures
    ∙ rw (← c.self.view_is) (ap (option_map (told_at c.args.obj.0 (nodes_of c.self.inside.volumes.items)))
    (sym (view_at _ c.self.invariant _ _ spot.within c.index-volume.ensures _ _ spot ∙ sym c.in_err-node.ensures)))

pub returns-clause-told : goal.returns-clause-told
returns-clause-told c =
    let spot : IsSpot c.self.inside.volumes.items c.in_ok-spot.spot.volume c.in_ok-spot.spot.inode c.args.obj.0 = rw c.as_slice.ensures.value at c.in_ok-spot.ensures in
    let told_of : c.told.result ≡ _ = c.told.ensures ∙ ap (λ (m : ℕ). told c.index-volume.result.now.spec.ceiling m c.in_ok-node.node.now) c.len.ensures in
    ap (λ (t : Inode). Some t) told_of ∙ rw (← c.self.view_is) (sym (view_told _ c.self.invariant _ _ spot.within c.index-volume.ensures _ _ c.in_ok-node.node.now spot (sym c.in_ok-node.ensures)))

pub returns-clause-below : goal.returns-clause-below
returns-clause-below c =
    let spot : IsSpot c.self.inside.volumes.items c.in_ok-spot.spot.volume c.in_ok-spot.spot.inode c.args.obj.0 = rw c.as_slice.ensures.value at c.in_ok-spot.ensures in
    ap (λ (t : Inode). leq t.float.label t.float.ceiling) c.told.ensures ∙ below_spec _ c.self.invariant _ _ spot.within c.index-volume.ensures _ _ spot _ (sym c.in_ok-node.ensures)
