use Rattle.ix_privserv.proofs.Privacy.{private-at-half}
use Rattle.ix_privserv.proofs.laws.private_at_half.Goals as goal

pub returns : goal.returns
returns c = private-at-half
