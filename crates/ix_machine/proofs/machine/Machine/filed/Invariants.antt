use Rattle.ix_machine.proofs.machine.Machine.filed.Given as goal

abbrev pub ghost-call : goal.ghost-call
ghost-call g a = g.moment
