use Rattle.std.proofs.Common.{◌≡◌, ◌+◌, drop}
use Rattle.ix_image.specs.Trees.{home}
use Rattle.ix_image.proofs.systems.home.Given as goal

abbrev pub invariant-loop-k : goal.invariant-loop-k
invariant-loop-k l = l.k + home (drop l.k l.fss) l.rest ≡ home l.fss l.fn.number
