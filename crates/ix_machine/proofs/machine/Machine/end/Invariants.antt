use Rattle.ix_machine.proofs.machine.Machine.end.Given as goal

abbrev pub ghost-let_go : goal.ghost-let_go
ghost-let_go g a = g.moment
