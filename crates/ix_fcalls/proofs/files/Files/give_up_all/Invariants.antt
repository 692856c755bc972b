use Rattle.ix_fcalls.proofs.Bare.{IsGivingUp}
use Rattle.ix_fcalls.proofs.files.Files.give_up_all.Given as goal

abbrev pub invariant-loop-fd : goal.invariant-loop-fd
invariant-loop-fd g l = IsGivingUp g.R.Others.rest l.fn.self l.fn.who l.fd l.self l.who
