use Rattle.ix_machine.proofs.machine.Machine.call_fresh.Given as goal

abbrev pub ghost-filed_known : goal.ghost-filed_known
ghost-filed_known a = record { place = a.place; world = a.self.now }
