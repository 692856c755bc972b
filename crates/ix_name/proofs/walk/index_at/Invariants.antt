use Rattle.std.proofs.Common.{◌≡◌, Some, slice_get}
use Rattle.ix_links.specs.Chains.{chain_of}
use Rattle.ix_name.proofs.walk.index_at.Given as goal

abbrev pub invariant-loop : goal.invariant-loop
invariant-loop l = slice_get (chain_of l.chain l.links) l.counter ≡ Some l.index
