use Rattle.std.proofs.{Common.{◌≡◌, None, refl, ◌∙◌, subst, arith}, lemmas.List.length-set}
use Rattle.ix_proc.{specs.Slots.lookup, proofs.{Laying.are_set, Found.{slot_in, not_there, record_set}, Adding.set_kin}}
use Rattle.ix_proc.proofs.procs.Procs.set.Goals as goal

pub unreachable-requires : goal.unreachable-requires
unreachable-requires c = not_there _ _ _ _ c.self.invariant.0 _ c.self.view_is _ (subst (λ t. lookup t c.args.new.now.who.pid.0 ≡ None) c.as_slice.ensures.value
    c.in_default.ensures) c.requires.there

pub index_mut-requires : goal.index_mut-requires
index_mut-requires c =
    let slot = slot_in _ _ _ _ c.self.invariant.0 _ _ _ c.as_slice.ensures.value c.in-Some.ensures c.index.ensures in
    omega (arith, c.self.invariant.0.inside _ _ slot, c.self.inside.records.ok)

pub invariant_of-self : goal.invariant_of-self
invariant_of-self c =
    let slot = slot_in _ _ _ _ c.self.invariant.0 _ _ _ c.as_slice.ensures.value c.in-Some.ensures c.index.ensures in (
      are_set _ _ _ c.self.invariant.0 _ _ slot _ refl,
      set_kin _ _ _ _ _ c.self.invariant.0 c.self.invariant.1 c.self.invariant.2 _ c.self.view_is _ _ slot _ c.requires.parent c.requires.childless,
      length-set _ _ _ ∙ c.self.invariant.2,
      c.self.invariant.3,
    )

pub returns : goal.returns
returns c =
    let slot = slot_in _ _ _ _ c.self.invariant.0 _ _ _ c.as_slice.ensures.value c.in-Some.ensures c.index.ensures in
    record_set _ _ _ _ c.self.invariant.0 _ c.self.view_is
    _ _ slot _ refl
