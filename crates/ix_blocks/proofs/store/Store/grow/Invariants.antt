use Rattle.std.proofs.Common.{◌≡◌}
use Rattle.ix_blocks.specs.Wholes.{blocks_added}
use Rattle.ix_blocks.proofs.store.Store.grow.Given as goal

abbrev pub invariant-loop-added : goal.invariant-loop-added
invariant-loop-added l = l.self ≡ blocks_added l._added l.file l.fn.self
