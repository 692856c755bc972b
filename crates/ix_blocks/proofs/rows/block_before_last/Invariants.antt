use Rattle.std.proofs.Common.{◌≡◌, ◌-◌, length, slice_get}
use Rattle.ix_links.specs.Chains.{chain_of}
use Rattle.ix_blocks.proofs.rows.block_before_last.Given as goal

abbrev pub invariant-loop-passed : goal.invariant-loop-passed
invariant-loop-passed l = l.block ≡ slice_get (chain_of l.file l.links) (length (chain_of l.file l.links) - 1 - l._passed)
