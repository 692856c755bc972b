use Rattle.std.proofs.{Common.{◌≡◌, Some, None, sym, ap, subst, arith}, lemmas.List.get_or_read}
use Rattle.ix_proc.{specs.{Slots.{lookup, Finds, nobody}, Kin.Parented}, proofs.Asked.childless_anyway}
use Rattle.ix_proc.proofs.{Laying.are_removed, Found.{slot_in, not_there, record_gone}, Hanging.hangs_there, Adding.{own_parent, removed_held, removed_kin}}
use Rattle.ix_proc.proofs.procs.Procs.remove.Goals as goal

pub unreachable-requires : goal.unreachable-requires
unreachable-requires c = not_there _ _ _ _
    c.self.invariant.0 _ c.self.view_is _ (subst (λ t. lookup t c.args.pid.0 ≡ None) c.as_slice.ensures.value c.in_default.ensures)
    c.requires.there

pub index-requires-2 : goal.index-requires-2
index-requires-2 c =
    let slot = slot_in _ _ _ _ c.self.invariant.0 _ _ _ c.as_slice.ensures.value c.in-Some.ensures c.index.ensures in
    omega (arith, c.self.invariant.0.inside _ _ slot, c.self.inside.records.ok)

pub chain_behind-chain-requires-clause-parented : goal.chain_behind-chain-requires-clause-parented
chain_behind-chain-requires-clause-parented c =
    let slot = slot_in _ _ _ _ c.self.invariant.0 _ _ _ c.as_slice.ensures.value c.in-Some.ensures c.index.ensures in
    let read =
    get_or_read c.self.inside.records.items c.index.result.now.link _ (c.self.invariant.0.inside _ _ slot) c.index-2.ensures
    nobody in
    subst (λ t. Parented t c.index-2.result.now.parent) (sym c.as_slice-2.ensures.value)
    (subst (λ o. Parented c.self.inside.slots.items o) (ap (λ r. r.parent) (sym read)) (own_parent _ _ _ _ _ c.self.invariant.0
    c.self.invariant.1 c.self.invariant.2 _ c.self.view_is _ _ slot))

pub remove-requires-2-clause-held : goal.remove-requires-2-clause-held
remove-requires-2-clause-held c =
    let there = subst (λ t. Finds (Some c.in-Some.k) t c.args.pid.0) c.as_slice.ensures.value c.in-Some.ensures in
    let slot = slot_in _ _ _ _ c.self.invariant.0 _ _ _ c.as_slice.ensures.value c.in-Some.ensures c.index.ensures in
    let read =
    get_or_read c.self.inside.records.items c.index.result.now.link _ (c.self.invariant.0.inside _ _ slot) c.index-2.ensures
    nobody in
    removed_held _ _ _ _ _
    c.self.invariant.0 c.self.invariant.1 c.self.invariant.2 _ c.self.view_is
    _ _ _ there c.index.ensures _ (ap (λ r. r.parent) read) _ (hangs_there _ _ _ _ _
    _ c.as_slice-2.ensures.value (omega (arith, c.len-roots.ensures, c.self.inside.records.ok, c.self.invariant.2))
    c.chain_behind-chain.ensures)

pub invariant_of-self : goal.invariant_of-self
invariant_of-self c =
    let there = subst (λ t. Finds (Some c.in-Some.k) t c.args.pid.0) c.as_slice.ensures.value c.in-Some.ensures in
    let slot = slot_in _ _ _ _ c.self.invariant.0 _ _ _ c.as_slice.ensures.value c.in-Some.ensures c.index.ensures in
    let read =
    get_or_read c.self.inside.records.items c.index.result.now.link _ (c.self.invariant.0.inside _ _ slot) c.index-2.ensures
    nobody in
    let kin = removed_kin _ _ _ _ _
    c.self.invariant.0 c.self.invariant.1 c.self.invariant.2 _ c.self.view_is
    _ _ _ there c.index.ensures _ (ap (λ r. r.parent) read) _ (hangs_there _ _ _ _ _
    _ c.as_slice-2.ensures.value (omega (arith, c.len-roots.ensures, c.self.inside.records.ok, c.self.invariant.2))
    c.chain_behind-chain.ensures) (childless_anyway _ _ _ _ _
    c.self.invariant.0 c.self.invariant.1 _ c.self.view_is _ c.requires.childless) in
    rw (c.remove.ensures.items, c.remove.ensures.capacity, c.remove-2.ensures) (
      are_removed _ _ _ c.self.invariant.0 _ _ c.index.result.now there,
      kin,
      c.self.invariant.2,
      c.self.invariant.3,
    )

pub returns : goal.returns
returns c =
    let there = subst (λ t. Finds (Some c.in-Some.k) t c.args.pid.0) c.as_slice.ensures.value c.in-Some.ensures in
    rw (c.remove.ensures.items, c.remove.ensures.capacity) (record_gone _ _ _ _ c.self.invariant.0 _ c.self.view_is _ _ c.remove.result there)
