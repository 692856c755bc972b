use Rattle.std.proofs.Common.{ap, ◌∙◌}
use Rattle.ix_blocks.{specs.Wholes.blocks_added, proofs.Counting.added_more}
use Rattle.ix_blocks.proofs.store.Store.grow.Goals as goal

pub loop-added-preserved : goal.loop-added-preserved
loop-added-preserved c = c.push.ensures ∙ ap (blocks_added 1 c.args.file) c.loop-added.invariant ∙ added_more _ _ _ c.requires.file
