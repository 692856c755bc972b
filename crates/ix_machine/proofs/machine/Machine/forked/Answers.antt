use Rattle.ix_machine.proofs.Stepped.{forked, fork_refused}
use Rattle.ix_machine.proofs.machine.Machine.forked.Goals as goal

pub returns-in-Ok : goal.returns-in-Ok
returns-in-Ok c = forked _ _ _ _ _ _ _ c.requires.lives c.in-Ok.ensures.row c.in-Ok.ensures.content

pub returns-in-Err : goal.returns-in-Err
returns-in-Err c = fork_refused _ _ _ _ _ _ _ c.requires.sound.holdings.clean c.requires.lives c.in-Err.ensures.same c.in-Err.ensures.row
