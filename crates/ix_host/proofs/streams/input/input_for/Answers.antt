use Rattle.ix_host.proofs.streams.input.input_for.Goals as goal

pub returns-in-Run-clause-gathers : goal.returns-in-Run-clause-gathers
returns-in-Run-clause-gathers g c = λ _. rw c.in-Run.is c.read_all.ensures.told

pub returns-in-Print-clause-gathers : goal.returns-in-Print-clause-gathers
returns-in-Print-clause-gathers g c = λ _. rw c.in-Print.is c.read_all-in-Print.ensures.told

pub returns-in-Check-clause-gathers : goal.returns-in-Check-clause-gathers
returns-in-Check-clause-gathers g c = λ _. rw c.in-Check.is c.read_all-in-Check.ensures.told

pub returns-in-Flow-clause-gathers : goal.returns-in-Flow-clause-gathers
returns-in-Flow-clause-gathers g c = λ _. rw c.in-Flow.is c.read_all-in-Flow.ensures.told

pub returns-in-Save-clause-gathers : goal.returns-in-Save-clause-gathers
returns-in-Save-clause-gathers g c = λ _. rw c.in-Save.is c.read_all-in-Save.ensures.told

pub returns-in-Load-clause-gathers : goal.returns-in-Load-clause-gathers
returns-in-Load-clause-gathers g c = λ _. rw c.in-Load.is c.read_all-in-Load.ensures.told

pub returns-in-Twin-clause-gathers : goal.returns-in-Twin-clause-gathers
returns-in-Twin-clause-gathers g c = λ _. rw c.in-Twin.is c.read_all-in-Twin.ensures.told
