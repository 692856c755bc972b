use Rattle.std.{proofs.{Common.{◌≡◌, ◌<◌, ◌+◌, ℕ, Bool, List, length, Some, is_some, slice_index_or, sym, ap, ◌∙◌, subst}, lemmas.List.get_or_read}, specs.List.find}
use Rattle.ix_links.specs.Chains.{chain_of}
use Rattle.ix_proc.{specs.{Slots.{record_at, nobody}, declared.slot.Record.Record}, proofs.Walking.{rest_from, found_here, found_later, less_left}}
use Rattle.ix_proc.proofs.search.first_ended.Goals as goal

-- whether the record of a link has ended, as it was read
ended_is : (rs : List Record) (i : ℕ) (r : Record) (b b' : Bool) → i < length rs → r ≡ slice_index_or rs i r → b ≡ is_some (slice_index_or rs i r).ended → b ≡ b' → is_some (record_at rs i).ended ≡ b'
ended_is rs i r b b' low read test is = ap (λ x. is_some x.ended) (sym (get_or_read rs i r low read nobody) ∙ read) ∙ sym test ∙ is

pub returns-then-is_some : goal.returns-then-is_some
returns-then-is_some c =
    let E : ℕ → Bool = λ i. is_some _ in
    let chain = chain_of c.args.chain c.args.kin.now in
    let here = sym c.loop-next.invariant.1 ∙ c.in-Some.is in
    found_here E _ c.requires.walk.once _ _ here (c.loop-next.invariant.2 ∙ ap (λ o. find E (rest_from o chain)) c.in-Some.is)
    (ended_is _ _ _ _ _ (c.requires.walk.low c.loop-next.invariant.0 c.in-Some.link
    here) c.index-records-link.is c.is_some.ensures c.if-is_some.true)

pub loop-next-smaller : goal.loop-next-smaller
loop-next-smaller c =
    let E : ℕ → Bool = λ i. is_some (record_at c.args.records.now i).ended in
    let chain = chain_of c.args.chain c.args.kin.now in
    let here = sym c.loop-next.invariant.1 ∙ c.in-Some.is in
    let later = c.next-next.ensures.chain _ c.loop-next.invariant.0 here in
    subst (λ o. length (rest_from c.next-next.result chain) < length (rest_from o chain)) (sym c.in-Some.is)
    (subst (λ o. length (rest_from o chain) < length (rest_from (Some c.in-Some.link) chain)) (sym later) (less_left E _ c.requires.walk.once _ _ here))

pub loop-next-preserved : goal.loop-next-preserved
loop-next-preserved c =
    let E : ℕ → Bool = λ i. is_some _ in
    let chain = chain_of c.args.chain c.args.kin.now in
    let here = sym c.loop-next.invariant.1 ∙ c.in-Some.is in
    let later = c.next-next.ensures.chain _ c.loop-next.invariant.0 here in
    let fails = ended_is _ _ _ _ _
    (c.requires.walk.low c.loop-next.invariant.0 c.in-Some.link here) c.index-records-link.is c.is_some.ensures c.if-is_some.false in (
      c.loop-next.invariant.0 + 1,
      later,
      found_later E _ c.requires.walk.once _ _ here (c.loop-next.invariant.2
          ∙ ap (λ o. find E (rest_from o chain)) c.in-Some.is) fails ∙ ap (λ o. find E (rest_from o chain)) (sym later),
    )
