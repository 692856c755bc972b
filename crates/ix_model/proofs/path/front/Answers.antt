use Rattle.std.proofs.Common.{arith}
use Rattle.ix_model.proofs.texts.Joining.{front_some, front_all}
use Rattle.ix_model.proofs.path.front.Goals as goal

pub returns-in-Some-clause-text : goal.returns-in-Some-clause-text
returns-in-Some-clause-text c = (front_some c.args.text.now _ _ (omega (arith, c.in-Some.ensures.0)) c.requires c.in-Some.ensures.1).is

pub returns-in-Some-clause-names : goal.returns-in-Some-clause-names
returns-in-Some-clause-names c = (front_some c.args.text.now _ _ (omega (arith, c.in-Some.ensures.0)) c.requires c.in-Some.ensures.1).names

pub returns-in-None-clause-text : goal.returns-in-None-clause-text
returns-in-None-clause-text c = (front_all c.args.text.now c.in-None.ensures).is

pub returns-in-None-clause-names : goal.returns-in-None-clause-names
returns-in-None-clause-names c = (front_all c.args.text.now c.in-None.ensures).names
