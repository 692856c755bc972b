use Rattle.std.proofs.Common.{rules}
use Rattle.ix_licence.proofs.Dropping.{difference}
use Rattle.ix_licence.proofs.privs.without.Goals as goal

pub returns : goal.returns
returns c = difference c.difference.result c.args.set c.args.other (search rules) (search rules) (c.difference.ensures tt)
