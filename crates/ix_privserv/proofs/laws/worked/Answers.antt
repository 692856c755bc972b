use Rattle.ix_privserv.proofs.Worked.{wants-down}
use Rattle.ix_privserv.proofs.laws.worked.Goals as goal

pub returns : goal.returns
returns c = wants-down
