use Rattle.std.proofs.Common.{◌≡◌, None, sym, ◌∙◌, subst, arith}
use Rattle.ix_proc.{specs.Slots.lookup, proofs.{Found.slot_in, Hanging.link_low, Asked.{childless_without, has_first}}}
use Rattle.ix_proc.proofs.procs.Procs.has_child.Goals as goal

pub returns-in_default : goal.returns-in_default
returns-in_default c = sym (childless_without _ _ _ _ _ c.self.invariant.0 c.self.invariant.1 _ c.self.view_is _ (subst (λ t. lookup t c.args.pid.0 ≡ None)
    c.as_slice.ensures.value c.in_default.ensures))

pub first-requires : goal.first-requires
first-requires c =
    let slot = slot_in _ _ _ _ c.self.invariant.0 _ _ _ c.as_slice.ensures.value c.in-Some.ensures c.index.ensures in
    omega (
      arith,
      c.self.invariant.1.wide,
      link_low _ _ _ _ _ c.self.invariant.0 c.self.invariant.1 c.self.invariant.2 _ _ slot,
    )

pub returns : goal.returns
returns c =
    let slot = slot_in _ _ _ _ c.self.invariant.0 _ _ _ c.as_slice.ensures.value c.in-Some.ensures c.index.ensures in
    c.is_some.ensures ∙ has_first _ _ _ _ _
    c.self.invariant.0 c.self.invariant.1 _ c.self.view_is _ _ slot _ c.first.ensures
