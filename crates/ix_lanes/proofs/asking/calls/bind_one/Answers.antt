use Rattle.std.proofs.Common.{Some}
use Rattle.ix_lanes.proofs.found.Placing.{given-filled, keeps-inserted}
use Rattle.ix_lanes.proofs.asking.calls.bind_one.Goals as goal

pub returns-in-Some-clause-set : goal.returns-in-Some-clause-set
returns-in-Some-clause-set g c = rw (c.put.ensures, c.in-Some.is) (given-filled c.args.names.now c.in-Some.name c.args.number)

pub returns-in-Some-clause-keeps : goal.returns-in-Some-clause-keeps
returns-in-Some-clause-keeps g c = rw c.put.ensures (keeps-inserted c.args.names.now c.in-Some.name (Some c.args.number))
