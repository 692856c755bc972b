use Rattle.std.proofs.Common.{◌-◌, length, slice_get, sym, ap, ◌∙◌, arith}
use Rattle.ix_links.{specs.Chains.chain_of, proofs.Held.held_below}
use Rattle.ix_blocks.proofs.{Storing.{last_at, before_at, none_there}, rows.block_before_last.Goals.{in-Some, in_default}}
use Rattle.ix_blocks.proofs.rows.block_before_last.Goals as goal

pub loop-passed-init : goal.loop-passed-init
loop-passed-init c =
    let chain = chain_of c.args.file c.args.links.now in
    c.last-block.ensures ∙ last_at chain (omega (arith, c.requires.there)) ∙ ap (slice_get chain) (omega arith)

pub previous-block-requires : goal.previous-block-requires
previous-block-requires c = held_below _ _ _ _ c.requires.law (sym c.loop-passed.invariant ∙ c.in-Some.is)

pub loop-passed-preserved : goal.loop-passed-preserved
loop-passed-preserved c =
    let chain = chain_of c.args.file c.args.links.now in
    elim c.match-block.branch [
      | in-Some w ↦ w.block-is ∙ w.previous-block.ensures.chain _ _ (sym c.loop-passed.invariant
          ∙ w.in-Some.is) ∙ before_at chain c.loop-passed._passed (omega (arith, c.requires.there, c.loop-passed.end-fits))
      | in_default w ↦ absurd (none_there chain (length chain - 1 - c.loop-passed._passed) (omega (arith, c.requires.there)) (sym c.loop-passed.invariant ∙ w.in_default.is))
    ]
