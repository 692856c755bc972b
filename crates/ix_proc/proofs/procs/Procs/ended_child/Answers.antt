use Rattle.std.{proofs.{Common.{◌≡◌, Some, None, is_some, length, true≢false, sym, ap, ◌∙◌, subst, arith}, lemmas.List.get_or_read}, specs.List.find}
use Rattle.ix_links.specs.Chains.{chain_of}
use Rattle.ix_proc.specs.{Table.EndedChild, Slots.{lookup, record_at, nobody}, Kin.IsWalk}
use Rattle.ix_proc.proofs.{Found.slot_in, Hanging.link_low, Walking.chain_walk, Asked.{none_without, none_given, child_low, child_ended, child_given}}
use Rattle.ix_proc.proofs.procs.Procs.ended_child.Goals as goal

pub returns-in_err-k : goal.returns-in_err-k
returns-in_err-k c =
    let none = subst (λ t. lookup t c.args.pid.0 ≡ None) c.as_slice.ensures.value c.in_err-k.ensures in
    subst (λ o. EndedChild o c.args.pid.0 c.args.self.now) (sym c.from_residual.ensures) (none_without _ _ _ _ _ c.self.invariant.0 c.self.invariant.1 _ c.self.view_is _ none)

pub first_ended-requires-clause-chain : goal.first_ended-requires-clause-chain
first_ended-requires-clause-chain c =
    let slot = slot_in _ _ _ _ c.self.invariant.0 _ _ _ c.as_slice.ensures.value c.in_ok-k.ensures c.index.ensures in
    omega (
      arith,
      c.self.invariant.1.wide,
      link_low _ _ _ _ _ c.self.invariant.0 c.self.invariant.1 c.self.invariant.2 _ _ slot,
    )

pub first_ended-requires-clause-walk : goal.first_ended-requires-clause-walk
first_ended-requires-clause-walk c =
    let slot = slot_in _ _ _ _ c.self.invariant.0 _ _ _ c.as_slice.ensures.value c.in_ok-k.ensures c.index.ensures in
    subst (λ rs. IsWalk (chain_of c.index.result.now.link c.self.inside.kin) (length rs)) (sym c.as_slice-2.ensures.value)
    (chain_walk _ _ _ _ _ c.self.invariant.0
    c.self.invariant.1 c.self.invariant.2 _ _ slot)

pub returns-in_err-link : goal.returns-in_err-link
returns-in_err-link c =
    let slot = slot_in _ _ _ _ c.self.invariant.0 _ _ _ c.as_slice.ensures.value c.in_ok-k.ensures c.index.ensures in
    let first = subst (λ rs. None ≡ find (λ i. is_some (record_at rs i).ended) (chain_of c.index.result.now.link c.self.inside.kin))
    c.as_slice-2.ensures.value c.in_err-link.ensures in
    subst (λ o. EndedChild o c.args.pid.0 c.args.self.now) (sym c.from_residual-in_err-link.ensures) (none_given _ _ _ _ _
    c.self.invariant.0 c.self.invariant.1 _ c.self.view_is _ _ slot first)

pub index-record-requires : goal.index-record-requires
index-record-requires c =
    let slot = slot_in _ _ _ _ c.self.invariant.0 _ _ _ c.as_slice.ensures.value c.in_ok-k.ensures c.index.ensures in
    let first = subst (λ rs. Some c.in_ok-link.link ≡ find (λ i. is_some (record_at rs i).ended)
    (chain_of c.index.result.now.link c.self.inside.kin)) c.as_slice-2.ensures.value c.in_ok-link.ensures in
    omega (
      arith,
      c.self.inside.records.ok,
      child_low _ _ _ _ _ c.self.invariant.0 c.self.invariant.1 _ c.self.view_is _ _ slot _ first,
    )

pub unreachable-requires : goal.unreachable-requires
unreachable-requires c =
    let slot = slot_in _ _ _ _ c.self.invariant.0 _ _ _ c.as_slice.ensures.value c.in_ok-k.ensures c.index.ensures in
    let first = subst (λ rs. Some c.in_ok-link.link ≡ find (λ i. is_some (record_at rs i).ended)
    (chain_of c.index.result.now.link c.self.inside.kin)) c.as_slice-2.ensures.value c.in_ok-link.ensures in
    let low = child_low _ _ _ _ _
    c.self.invariant.0 c.self.invariant.1 _ c.self.view_is _ _ slot _ first in
    let read = get_or_read _ c.in_ok-link.link _ low c.index-record.ensures nobody in
    true≢false (sym (child_ended _ _ _ _ _
    c.self.invariant.0 c.self.invariant.1 _ c.self.view_is _ _ slot _ first) ∙ ap (λ r. is_some r.ended) (sym read) ∙ ap is_some c.in_default.is)

pub returns : goal.returns
returns c =
    let slot = slot_in _ _ _ _ c.self.invariant.0 _ _ _ c.as_slice.ensures.value c.in_ok-k.ensures c.index.ensures in
    let first = subst (λ rs. Some c.in_ok-link.link ≡ find (λ i. is_some (record_at rs i).ended)
    (chain_of c.index.result.now.link c.self.inside.kin)) c.as_slice-2.ensures.value c.in_ok-link.ensures in
    let low = child_low _ _ _ _ _
    c.self.invariant.0 c.self.invariant.1 _ c.self.view_is _ _ slot _ first in
    let read = get_or_read _ c.in_ok-link.link _ low c.index-record.ensures nobody in
    child_given _ _ _ _ _ c.self.invariant.0
    c.self.invariant.1 _ c.self.view_is _ _ slot _ first _ read _ c.in-Some.is
