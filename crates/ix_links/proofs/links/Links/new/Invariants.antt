use Rattle.std.{proofs.Common.{◌≡◌, length}, specs.List.range_with_len}
use Rattle.ix_links.specs.Standing.{IsChain}
use Rattle.ix_links.proofs.links.Links.new.Given as goal

abbrev pub invariant-loop-index : goal.invariant-loop-index
invariant-loop-index l = (length l.slots ≡ l.fn.items) × IsChain l.slots l.unused (range_with_len 0 l.index)
