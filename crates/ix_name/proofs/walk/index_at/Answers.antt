use Rattle.std.proofs.Common.{◌+◌, ◌∙◌, sym, arith}
use Rattle.ix_links.{specs.Chains.chain_of, proofs.{Held.held_below, Walked.none_behind}}
use Rattle.ix_name.proofs.walk.index_at.Goals as goal

pub next-requires : goal.next-requires
next-requires c = held_below c.args.links.now c.args.chain c.loop.counter c.loop.index c.is_pool.ensures c.loop.invariant

pub returns-in_err-index-2 : goal.returns-in_err-index-2
returns-in_err-index-2 c =
    c.from_residual-in_err-index-2.ensures
    ∙ sym (none_behind (chain_of c.args.chain c.args.links.now) (c.loop.counter + 1) c.args.place (sym (c.in_err-index-2.ensures.chain c.args.chain c.loop.counter c.loop.invariant)) (omega arith))
