use Rattle.ix_image.specs.Written.{IsBegun}
use Rattle.ix_image.proofs.tests.is_saved.Given as goal

abbrev pub invariant-loop : goal.invariant-loop
invariant-loop l = IsBegun l.saving
