use Rattle.std.proofs.Common.{sym, ◌∙◌}
use Rattle.ix_links.{specs.Chains.chain_of, proofs.Held.held_below}
use Rattle.ix_blocks.proofs.{Storing.none_after, rows.block_behind_first.Goals.{in-Some, in_default}}
use Rattle.ix_blocks.proofs.rows.block_behind_first.Goals as goal

pub next-block-requires : goal.next-block-requires
next-block-requires c = held_below _ _ _ _ c.requires.law (sym c.loop-passed.invariant ∙ c.in-Some.is)

pub loop-passed-preserved : goal.loop-passed-preserved
loop-passed-preserved c =
    elim c.match-block.branch [
      | in-Some w ↦ w.block-is ∙ w.next-block.ensures.chain _ c.loop-passed._passed (sym c.loop-passed.invariant ∙ w.in-Some.is)
      | in_default w ↦ w.block-is ∙ w.in_default.is ∙ sym (none_after (chain_of c.args.file c.args.links.now) c.loop-passed._passed (sym c.loop-passed.invariant ∙ w.in_default.is))
    ]
