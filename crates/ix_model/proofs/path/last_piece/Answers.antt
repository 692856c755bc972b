use Rattle.std.proofs.Common.{[]}
use Rattle.ix_model.proofs.texts.Joining.{last_piece}
use Rattle.ix_model.proofs.path.last_piece.Goals as goal

pub returns-in-Some-clause-last : goal.returns-in-Some-clause-last
returns-in-Some-clause-last c = rw c.split_at.ensures.back ((last_piece c.args.text.now _ _ c.requires.some c.requires.names c.in-Some.ensures.1).at)

pub returns-in-Some-clause-name : goal.returns-in-Some-clause-name
returns-in-Some-clause-name c = rw c.split_at.ensures.back ((last_piece c.args.text.now _ _ c.requires.some c.requires.names c.in-Some.ensures.1).is_named)

pub returns-in-None-clause-last : goal.returns-in-None-clause-last
returns-in-None-clause-last c = (last_piece c.args.text.now _ [] c.requires.some c.requires.names c.in-None.ensures).at

pub returns-in-None-clause-name : goal.returns-in-None-clause-name
returns-in-None-clause-name c = (last_piece c.args.text.now _ [] c.requires.some c.requires.names c.in-None.ensures).is_named
