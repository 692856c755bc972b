use Rattle.std.proofs.Common.{◌≡◌}
use Rattle.ix_blocks.specs.Wholes.{blocks_dropped}
use Rattle.ix_blocks.proofs.store.Store.shrink.Given as goal

abbrev pub invariant-loop-dropped : goal.invariant-loop-dropped
invariant-loop-dropped l = l.self ≡ blocks_dropped l._dropped l.file l.fn.self
