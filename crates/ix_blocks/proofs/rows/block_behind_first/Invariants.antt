use Rattle.std.proofs.Common.{◌≡◌, slice_get}
use Rattle.ix_links.specs.Chains.{chain_of}
use Rattle.ix_blocks.proofs.rows.block_behind_first.Given as goal

abbrev pub invariant-loop-passed : goal.invariant-loop-passed
invariant-loop-passed l = l.block ≡ slice_get (chain_of l.file l.links) l._passed
