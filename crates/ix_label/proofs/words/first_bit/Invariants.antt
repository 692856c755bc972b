use Rattle.std.proofs.Common.{◌*◌, ◌≤◌}
use Rattle.ix_label.proofs.Bits.{NoBits}
use Rattle.ix_label.proofs.words.first_bit.Given as goal

abbrev pub invariant-words : goal.invariant-words
invariant-words l = record {
  start : l.from ≤ l.k * 64;
  none : NoBits l.words l.from (l.k * 64);
}
