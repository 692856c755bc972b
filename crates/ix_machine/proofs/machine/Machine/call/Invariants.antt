use Rattle.ix_machine.proofs.machine.Machine.call.Given as goal

abbrev pub ghost-filed : goal.ghost-filed
ghost-filed g a = record { place = a.place; world = a.self.now }
