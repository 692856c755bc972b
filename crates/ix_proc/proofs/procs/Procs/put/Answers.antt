use Rattle.std.{proofs.{Common.{◌≡◌, None, Some, refl, sym, ap, ◌∙◌, subst, arith}, lemmas.List.{length-set, get_or_read}}, specs.Option.option_and_then}
use Rattle.ix_model.specs.world.World.{Process}
use Rattle.ix_proc.specs.Slots.{lookup, nobody, process_of}
use Rattle.ix_proc.proofs.{Laying.are_set, Found.{slot_in, not_there, process_is, who_set, stands, lives_on}, Adding.set_kin}
use Rattle.ix_proc.proofs.procs.Procs.put.Goals as goal

pub unreachable-requires : goal.unreachable-requires
unreachable-requires c = not_there _ _ _ _ c.self.invariant.0 _ c.self.view_is _ (subst (λ t. lookup t c.args.who.now.pid.0 ≡ None) c.as_slice.ensures.value
    c.in_default.ensures) (stands _ c.requires)

pub index_mut-requires : goal.index_mut-requires
index_mut-requires c =
    let slot = slot_in _ _ _ _ c.self.invariant.0 _ _ _ c.as_slice.ensures.value c.in-Some.ensures c.index.ensures in
    omega (arith, c.self.invariant.0.inside _ _ slot, c.self.inside.records.ok)

pub invariant_of-self : goal.invariant_of-self
invariant_of-self c =
    let slot = slot_in _ _ _ _ c.self.invariant.0 _ _ _ c.as_slice.ensures.value c.in-Some.ensures c.index.ensures in
    let read = get_or_read c.self.inside.records.items c.index.result.now.link _ (c.self.invariant.0.inside _ _ slot) c.index_mut.ensures.value nobody in
    let here = process_is _ _ _ _ c.self.invariant.0 _ c.self.view_is _ _ slot ∙ ap (λ x. Some (process_of x)) (sym read) in (
      are_set _ _ _ c.self.invariant.0 _ _ slot _ refl,
      set_kin _ _ _ _ _ c.self.invariant.0 c.self.invariant.1 c.self.invariant.2 _ c.self.view_is _ _ slot _
          (ap (λ o. option_and_then (λ (x : Process). x.parent) o) here)
          (λ ended. absurd (lives_on _ _ here c.requires ended)),
      length-set _ _ _ ∙ c.self.invariant.2,
      c.self.invariant.3,
    )

pub returns : goal.returns
returns c =
    let slot = slot_in _ _ _ _ c.self.invariant.0 _ _ _ c.as_slice.ensures.value c.in-Some.ensures c.index.ensures in
    let read = get_or_read c.self.inside.records.items c.index.result.now.link _ (c.self.invariant.0.inside _ _ slot) c.index_mut.ensures.value nobody in
    who_set _ _ _ _ c.self.invariant.0 _ c.self.view_is _ _ slot _ read _ refl
