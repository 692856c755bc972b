use Rattle.std.{proofs.Common.{◌<◌, length, sym, ap, ◌∙◌, subst, arith}, specs.List.Contains}
use Rattle.ix_links.specs.{Chains.{chain_of, removed}, Linking.{link_at, Within}}
use Rattle.ix_links.proofs.{Running.length-unlinked, Calls.{item_within, previous_within, next_within, unused_within, room_for_one, closes_removed}}
use Rattle.ix_links.proofs.links.Links.remove.Goals as goal

pub unlink-requires-clause-within : goal.unlink-requires-clause-within
unlink-requires-clause-within c = rw c.as_mut_slice-items.ensures.value (item_within _ _ _ c.self.invariant
    (subst (λ v. c.args.chain < length v.chains) (sym c.self.view_is) c.requires.chain)
    (subst (λ v. Contains (chain_of c.args.chain v) c.args.index) (sym c.self.view_is) c.requires.held))

pub unlink-requires-clause-previous : goal.unlink-requires-clause-previous
unlink-requires-clause-previous c = subst (λ zs. Within zs (link_at zs c.args.index).previous) (sym c.as_mut_slice-items.ensures.value)
    (previous_within _ _ _ c.self.invariant (subst (λ v. c.args.chain < length v.chains) (sym c.self.view_is) c.requires.chain)
    (subst (λ v. Contains (chain_of c.args.chain v) c.args.index) (sym c.self.view_is) c.requires.held))

pub unlink-requires-clause-next : goal.unlink-requires-clause-next
unlink-requires-clause-next c = subst (λ zs. Within zs (link_at zs c.args.index).next) (sym c.as_mut_slice-items.ensures.value)
    (next_within _ _ _ c.self.invariant (subst (λ v. c.args.chain < length v.chains) (sym c.self.view_is) c.requires.chain)
    (subst (λ v. Contains (chain_of c.args.chain v) c.args.index) (sym c.self.view_is) c.requires.held))

pub insert-requires-clause-within : goal.insert-requires-clause-within
insert-requires-clause-within c =
    let len = ap length c.unlink.ensures.items ∙ length-unlinked _ _ ∙ ap length c.as_mut_slice-items.ensures.value in
    rw len (item_within _ _ _ c.self.invariant (subst (λ v. c.args.chain < length v.chains) (sym c.self.view_is) c.requires.chain)
    (subst (λ v. Contains (chain_of c.args.chain v) c.args.index) (sym c.self.view_is) c.requires.held))

pub insert-requires-clause-next : goal.insert-requires-clause-next
insert-requires-clause-next c = unused_within _ _ c.self.invariant
    (ap length c.unlink.ensures.items ∙ length-unlinked _ _ ∙ ap length c.as_mut_slice-items.ensures.value)

pub overflow_add-self : goal.overflow_add-self
overflow_add-self c =
    omega (
      arith,
      room_for_one _ _ _ c.self.invariant (subst (λ v. c.args.chain < length v.chains) (sym c.self.view_is) c.requires.chain)
          (subst (λ v. Contains (chain_of c.args.chain v) c.args.index) (sym c.self.view_is) c.requires.held),
    )

pub invariant_of-self : goal.invariant_of-self
invariant_of-self c = (closes_removed _ _ _ _ _ _ _ _ _ c.self.invariant (subst (λ v. c.args.chain < length v.chains) (sym c.self.view_is) c.requires.chain)
    (subst (λ v. Contains (chain_of c.args.chain v) c.args.index) (sym c.self.view_is) c.requires.held)
    c.index_mut.ensures.value c.as_mut_slice-items.ensures.value c.unlink.ensures.items c.unlink.ensures.ends c.insert.ensures.items c.insert.ensures.ends).whole

pub returns : goal.returns
returns c = (closes_removed _ _ _ _ _ _ _ _ _ c.self.invariant (subst (λ v. c.args.chain < length v.chains) (sym c.self.view_is) c.requires.chain)
    (subst (λ v. Contains (chain_of c.args.chain v) c.args.index) (sym c.self.view_is) c.requires.held)
    c.index_mut.ensures.value c.as_mut_slice-items.ensures.value c.unlink.ensures.items c.unlink.ensures.ends c.insert.ensures.items c.insert.ensures.ends).shown
    ∙ ap (removed c.args.chain c.args.index) c.self.view_is
