use Rattle.ix_machine.proofs.forking.add_child.Given as goal

abbrev pub ghost-take_up : goal.ghost-take_up
ghost-take_up g a = g.processes
