use Rattle.std.proofs.Common.{◌≡◌, ◌-◌}
use Rattle.ix_policing.specs.Unnamed.{free_from, unnamed_user}
use Rattle.ix_policing.proofs.unnamed.free_user.Given as goal

-- what is found is found from the number on
abbrev pub invariant-loop-number : goal.invariant-loop-number
invariant-loop-number l = unnamed_user l.first l.second ≡ free_from l.first l.second l.number (512 - l.number)
