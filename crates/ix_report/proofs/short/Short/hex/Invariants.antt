use Rattle.std.proofs.Common.{◌≡◌, ◌≤◌, ◌++◌, length, drop}
use Rattle.ix_report.specs.Hex.{hex}
use Rattle.ix_report.proofs.short.Short.hex.Given as goal

abbrev pub invariant-pairs : goal.invariant-pairs
invariant-pairs l = record {
  few : l.left ≤ length l.bytes;
  told : l.self ≡ hex (drop l.left l.bytes) ++ l.fn.self;
}

abbrev pub decreases-pairs : goal.decreases-pairs
decreases-pairs l = l.left
