use Rattle.std.proofs.Common.{◌≡◌, ℕ}
use Rattle.ix_label.specs.Category.{has}
use Rattle.ix_image.proofs.Bitwise.{bits_below}
use Rattle.ix_image.proofs.labels.label_in.Given as goal

abbrev pub invariant-loop-i : goal.invariant-loop-i
invariant-loop-i l = (q : ℕ) → has l.label q ≡ bits_below l.bytes l.i q
