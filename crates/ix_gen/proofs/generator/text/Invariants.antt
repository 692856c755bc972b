use Rattle.std.{proofs.Common.{◌≡◌, ◌++◌, ◌+◌, ◌-◌}, specs.List.{flat_map, range_with_len}}
use Rattle.ix_gen.specs.Generated.{line_at, generated}
use Rattle.ix_gen.proofs.generator.text.Given as goal

abbrev pub invariant-loop-k : goal.invariant-loop-k
invariant-loop-k l = l.out.items ++ flat_map line_at (range_with_len l.k (l.count + 1 - l.k)) ≡ generated l.count
