use Rattle.std.proofs.Common.{◌≡◌, ◌<◌, drop}
use Rattle.ix_name.specs.Buckets.{mixed}
use Rattle.ix_name.proofs.buckets.mixed.Given as goal

abbrev pub invariant-loop-byte : goal.invariant-loop-byte
invariant-loop-byte l = (mixed l.sum (drop l.byte-index l.bytes) ≡ mixed l.dir l.bytes) × (l.sum < 4294967296)
