use Rattle.ix_machine.proofs.Stepped.{waited, wait_refused}
use Rattle.ix_machine.proofs.machine.Machine.waited.Goals as goal

pub returns-in-Ok : goal.returns-in-Ok
returns-in-Ok g c = waited _ _ _ _ c.in-Ok.child.0 _ _ c.requires.lives c.in-Ok.ensures.row c.in-Ok.ensures.status c.in-Ok.ensures.content

pub returns-in-Err : goal.returns-in-Err
returns-in-Err g c = wait_refused _ _ _ _ _ _ c.requires.sound.holdings.clean c.requires.lives c.in-Err.ensures.same c.in-Err.ensures.row
