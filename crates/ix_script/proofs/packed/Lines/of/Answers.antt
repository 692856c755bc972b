use Rattle.std.proofs.Common.{refl, arith}
use Rattle.ix_script.proofs.reader.Summing.{summed_none}
use Rattle.ix_script.proofs.packed.Lines.of.Goals as goal

pub invariant_of-result : goal.invariant_of-result
invariant_of-result c = rw (c.in_ok-ends.ensures.items, c.in_ok-roles.ensures.items) (
  (tt, summed_none, refl),
  refl,
  c.requires,
  record { within = omega arith; ends = λ i low. refl; last = λ some. absurd (omega (arith, some)) },
)
