use Rattle.std.proofs.Common.{rules}
use Rattle.ix_blocks.proofs.Showing.{shown_empty}
use Rattle.ix_blocks.proofs.blocks.Blocks.new.Goals as goal

pub returns : goal.returns
returns c = shown_empty _ _ _ _ (search rules) c.in_ok-store.ensures
