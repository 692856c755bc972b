use Rattle.ix_sessserv.proofs.Worked.{grant-is-refused}
use Rattle.ix_sessserv.proofs.laws.worked.Goals as goal

pub returns : goal.returns
returns c = grant-is-refused
