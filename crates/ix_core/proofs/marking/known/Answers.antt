use Rattle.ix_core.proofs.Marked.{known_call, told_known}
use Rattle.ix_core.proofs.marking.known.Goals as goal

pub call_fresh-requires-clause-known : goal.call_fresh-requires-clause-known
call_fresh-requires-clause-known c = known_call _ _ _ _ c.requires.known c.requires.fresh

pub returns-clause-told : goal.returns-clause-told
returns-clause-told c = told_known c.known_changes_nothing.ensures.nothing _ _ _ _ _ c.requires.ready c.requires.known c.requires.fresh
