use Rattle.ix_machine.proofs.machine.Machine.exit.Given as goal

abbrev pub ghost-end : goal.ghost-end
ghost-end a = record { place = 0; world = a.self.now }
