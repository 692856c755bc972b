use Rattle.std.proofs.Common.{◌≡◌, ◌∙◌, Some, None, sym, arith, slice_get}
use Rattle.ix_links.{specs.Chains.chain_of, proofs.{Held.held_below, Walked.{find_here, find_more, find_ended, find_past, length-chain}}}
use Rattle.ix_name.specs.Entries.{is_at}
use Rattle.ix_name.proofs.walk.index_of.Goals as goal

pub returns-in_err-index : goal.returns-in_err-index
returns-in_err-index c =
    let none : slice_get (chain_of c.args.chain c.args.links.now) c.loop.counter ≡ None = sym c.loop.invariant.0 ∙ c.in_err-index.was in
    c.from_residual.ensures ∙ sym (find_ended (is_at c.args.entries.now c.args.dir c.args.name.now.bytes.now) (chain_of c.args.chain c.args.links.now) c.loop.counter none) ∙ c.loop.invariant.1

pub is_at-requires : goal.is_at-requires
is_at-requires c =
    let low = held_below c.args.links.now c.args.chain c.loop.counter c.in_ok-index.index c.is_pool.ensures (sym c.loop.invariant.0 ∙ c.in_ok-index.was) in
    omega (arith, low, c.requires.entries)

pub returns-then-is_at : goal.returns-then-is_at
returns-then-is_at c = sym (find_here (is_at c.args.entries.now c.args.dir c.args.name.now.bytes.now) (chain_of c.args.chain c.args.links.now) c.loop.counter
    c.in_ok-index.index (sym c.loop.invariant.0 ∙ c.in_ok-index.was) (sym c.is_at.ensures ∙ c.if-is_at.true)) ∙ c.loop.invariant.1

pub next-next-requires : goal.next-next-requires
next-next-requires c = held_below c.args.links.now c.args.chain c.loop.counter c.in_ok-index.index c.is_pool.ensures (sym c.loop.invariant.0 ∙ c.in_ok-index.was)

pub loop-preserved : goal.loop-preserved
loop-preserved c =
    let here : slice_get (chain_of c.args.chain c.args.links.now) c.loop.counter ≡ Some c.in_ok-index.index = sym c.loop.invariant.0 ∙ c.in_ok-index.was in (
      c.next-next.ensures.chain c.args.chain c.loop.counter here,
      find_more (is_at c.args.entries.now c.args.dir c.args.name.now.bytes.now) (chain_of c.args.chain c.args.links.now) c.loop.counter c.in_ok-index.index here
          (sym c.is_at.ensures ∙ c.if-is_at.false) ∙ c.loop.invariant.1,
    )

pub returns : goal.returns
returns c =
    let past = length-chain c.args.links.now c.args.chain c.requires.chain in
    sym (find_past (is_at c.args.entries.now c.args.dir c.args.name.now.bytes.now) (chain_of c.args.chain c.args.links.now) c.loop.counter (omega (
      arith,
      past,
      c.requires.entries,
    ))) ∙ c.loop.invariant.1
