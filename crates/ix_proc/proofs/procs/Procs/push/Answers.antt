use Rattle.std.proofs.{Common.{refl, sym, ◌∙◌, subst, arith}, lemmas.List.length-set}
use Rattle.ix_proc.specs.{Slots.new_record, Kin.Parented, declared.slot.Slot.Slot}
use Rattle.ix_proc.proofs.{Hanging.hangs_there, Adding.{next_pid_is, parent_there, room, in_records, pushed_are, pushed_kin, pushed_table}}
use Rattle.ix_proc.proofs.procs.Procs.push.Goals as goal

pub chain_behind-chain-requires-clause-parented : goal.chain_behind-chain-requires-clause-parented
chain_behind-chain-requires-clause-parented c =
    subst (λ t. Parented t c.args.parent) (sym c.as_slice.ensures.value) (parent_there _ _ _ _ _ c.self.invariant.0 c.self.invariant.1 c.self.invariant.2 _ c.self.view_is
    _ c.requires.parent)

pub index_mut-requires : goal.index_mut-requires
index_mut-requires c =
    let hangs = hangs_there _ _ _ _ _
    _ c.as_slice.ensures.value (omega (arith, c.len-roots.ensures, c.self.inside.records.ok, c.self.invariant.2))
    c.chain_behind-chain.ensures in
    let x : Slot = record { pid = c.args.who.pid; link = c.in_ok-link.link } in
    omega (
      arith,
      c.self.inside.records.ok,
      in_records _ _ _ _ _
          c.self.invariant.0 c.self.invariant.1 c.self.invariant.2 _ c.self.view_is x (new_record c.args.who c.args.parent) c.chain_behind-chain.result
          c.in_ok-link.ensures.moved c.requires.pid c.requires.pid hangs c.requires.parent,
    )

pub overflow_add-self : goal.overflow_add-self
overflow_add-self c = omega (
  arith,
  c.requires.next,
  next_pid_is _ _ _ _ _ c.self.invariant.0 c.self.invariant.1 c.self.invariant.2 _ c.self.view_is,
)

pub invariant_of-self-2 : goal.invariant_of-self-2
invariant_of-self-2 c =
    let hangs = hangs_there _ _ _ _ _
    _ c.as_slice.ensures.value (omega (arith, c.len-roots.ensures, c.self.inside.records.ok, c.self.invariant.2))
    c.chain_behind-chain.ensures in
    let x : Slot = record { pid = c.args.who.pid; link = c.in_ok-link.link } in
    rw (c.push_reserved.ensures.items, c.push_reserved.ensures.capacity, c.push_back.ensures.pushed) (
      pushed_are _ _ _ _ _ c.self.invariant.0 c.self.invariant.1 c.self.invariant.2 _ c.self.view_is x _ _
          c.in_ok-link.ensures.moved c.requires.pid c.requires.pid hangs c.requires.parent,
      pushed_kin _ _ _ _ _ c.self.invariant.0 c.self.invariant.1 c.self.invariant.2 _ c.self.view_is x _ _
          c.in_ok-link.ensures.moved c.requires.pid c.requires.pid hangs c.requires.parent,
      length-set _ c.in_ok-link.link _ ∙ c.self.invariant.2,
      c.self.invariant.3,
    )

pub returns : goal.returns
returns c =
    let hangs = hangs_there _ _ _ _ _
    _ c.as_slice.ensures.value (omega (arith, c.len-roots.ensures, c.self.inside.records.ok, c.self.invariant.2))
    c.chain_behind-chain.ensures in
    let x : Slot = record { pid = c.args.who.pid; link = c.in_ok-link.link } in (
      room _ _ _ _ _ c.self.invariant.0
          c.self.invariant.1 c.self.invariant.2 _ c.self.view_is x (new_record c.args.who c.args.parent) _ c.in_ok-link.ensures.moved
          c.requires.pid c.requires.pid hangs c.requires.parent,
      c.requires.pid,
      rw (c.push_reserved.ensures.items, c.push_reserved.ensures.capacity) (pushed_table _ _ _ _ _ c.self.invariant.0 c.self.invariant.1 c.self.invariant.2 _ c.self.view_is x
          _ _ c.in_ok-link.ensures.moved c.requires.pid c.requires.pid hangs c.requires.parent
          refl),
    )
