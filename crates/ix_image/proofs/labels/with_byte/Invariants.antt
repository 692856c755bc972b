use Rattle.std.proofs.Common.{◌≡◌, ℕ}
use Rattle.ix_label.specs.Category.{has}
use Rattle.ix_image.proofs.Bitwise.{with_bits}
use Rattle.ix_image.proofs.labels.with_byte.Given as goal

abbrev pub invariant-loop-bit : goal.invariant-loop-bit
invariant-loop-bit l = (q : ℕ) → has l.more q ≡ with_bits l.fn.label l.first l.byte l.bit q
