use Rattle.std.{proofs.{Common.{◌≡◌, replicate, None, refl, ◌∙◌, subst, arith, rules}, lemmas.List.with_items_is}, specs.{List.range_with_len, Vec.with_items}}
use Rattle.ix_links.{specs.{declared.link.Ends.Ends, Standing.IsChain}, proofs.Making.{last_of_range, one_more, new_pool}}
use Rattle.ix_links.proofs.links.Links.new.Goals as goal

pub insert-requires-clause-previous : goal.insert-requires-clause-previous
insert-requires-clause-previous c = last_of_range _ _ _ _ c.loop-index.invariant.1 (omega (arith, c.loop-index.invariant.0, c.loop-index-test.true))

pub loop-index-preserved : goal.loop-index-preserved
loop-index-preserved c =
    let more = one_more _ _ _ _ _ c.loop-index.invariant.1 (omega (
      arith,
      c.loop-index.invariant.0,
      c.loop-index-test.true,
    )) c.insert.ensures.items c.insert.ensures.ends in
    (more.0 ∙ c.loop-index.invariant.0, more.1)

abbrev no_ends : Ends
no_ends = record { first = None; last = None }

pub invariant_of-result : goal.invariant_of-result
invariant_of-result c =
    let all : c.loop-index.index ≡ c.args.items = omega (arith, c.loop-index-test.false, c.loop-index.auto.index-end) in
    let chain = subst (λ n. IsChain c.loop-index.slots c.loop-index.unused (range_with_len 0 n)) all c.loop-index.invariant.1 in
    let ends : c.in_ok-ends.ends.items ≡ replicate c.args.chains no_ends = search rules in
    (new_pool (record {
      items = with_items c.in_ok-pool.pool c.loop-index.slots;
      chains = c.in_ok-ends.ends;
      unused = c.loop-index.unused;
      free = c.args.items;
    }) _ _ _ _ (omega arith) (with_items_is c.in_ok-pool.pool c.loop-index.slots (omega (
      arith,
      c.loop-index.invariant.0,
      c.in_ok-pool.ensures.len,
    ))) c.loop-index.invariant.0 chain ends refl refl refl).whole

pub returns : goal.returns
returns c =
    let all : c.loop-index.index ≡ c.args.items = omega (arith, c.loop-index-test.false, c.loop-index.auto.index-end) in
    let chain = subst (λ n. IsChain c.loop-index.slots c.loop-index.unused (range_with_len 0 n)) all c.loop-index.invariant.1 in
    let ends : c.in_ok-ends.ends.items ≡ replicate c.args.chains no_ends = search rules in
    (new_pool (record {
      items = with_items c.in_ok-pool.pool c.loop-index.slots;
      chains = c.in_ok-ends.ends;
      unused = c.loop-index.unused;
      free = c.args.items;
    }) _ _ _ _ (omega arith) (with_items_is c.in_ok-pool.pool c.loop-index.slots (omega (
      arith,
      c.loop-index.invariant.0,
      c.in_ok-pool.ensures.len,
    ))) c.loop-index.invariant.0 chain ends refl refl refl).shown
