use Rattle.std.proofs.Common.{ap, ◌∙◌}
use Rattle.ix_blocks.{specs.Wholes.blocks_dropped, proofs.Counting.dropped_more}
use Rattle.ix_blocks.proofs.store.Store.shrink.Goals as goal

pub loop-dropped-preserved : goal.loop-dropped-preserved
loop-dropped-preserved c = c.pop.ensures ∙ ap (blocks_dropped 1 c.args.file) c.loop-dropped.invariant ∙ dropped_more _ _ _ c.requires.file
