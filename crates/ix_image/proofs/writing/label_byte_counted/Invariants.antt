use Rattle.std.proofs.Common.{◌≡◌, ◌+◌}
use Rattle.ix_label.specs.{Category.has, Words.from_bits}
use Rattle.ix_image.proofs.writing.label_byte_counted.Given as goal

abbrev pub invariant-loop-bit : goal.invariant-loop-bit
invariant-loop-bit g l = l.byte ≡ from_bits (λ i. has l.label (l.first + i)) l.bit
