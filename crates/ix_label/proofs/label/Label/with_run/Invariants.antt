use Rattle.std.proofs.Common.{◌≡◌, ℕ, nat_le, nat_lt, ◌&&◌, ◌||◌}
use Rattle.ix_label.specs.Category.{has}
use Rattle.ix_label.proofs.label.Label.with_run.Given as goal

abbrev pub invariant-loop-cat : goal.invariant-loop-cat
invariant-loop-cat l = (q : ℕ) → has l.label q ≡ (has l.fn.self q || (nat_le l.first q && nat_lt q l.cat))
