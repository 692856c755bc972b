use Rattle.ix_machine.proofs.machine.Machine.bear.Given as goal

abbrev pub ghost-add_child : goal.ghost-add_child
ghost-add_child a = a.procs.now.processes
