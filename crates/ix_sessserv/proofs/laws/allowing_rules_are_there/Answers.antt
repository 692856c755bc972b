use Rattle.ix_sessserv.proofs.Rules.{rule-there}
use Rattle.ix_sessserv.proofs.laws.allowing_rules_are_there.Goals as goal

pub returns : goal.returns
returns c = rule-there
