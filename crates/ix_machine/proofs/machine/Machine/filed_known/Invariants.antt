use Rattle.ix_machine.proofs.machine.Machine.filed_known.Given as goal

abbrev pub ghost-call_fresh : goal.ghost-call_fresh
ghost-call_fresh g a = g.moment
