use Rattle.std.proofs.Common.{◌≡◌, [], take, drop}
use Rattle.ix_model.specs.opening.Valid.{objects_fit}
use Rattle.ix_model.proofs.valid.objects_fit.Given as goal

abbrev pub invariant-loop-i : goal.invariant-loop-i
invariant-loop-i g l = objects_fit l.fss l.limits (take l.i l.objects) (drop l.i l.objects) ≡ objects_fit l.fss l.limits [] l.objects
