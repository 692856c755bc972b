use Rattle.ix_sessserv.proofs.Privacy.{private-at-half}
use Rattle.ix_sessserv.proofs.laws.private_at_half.Goals as goal

pub returns : goal.returns
returns c = private-at-half
