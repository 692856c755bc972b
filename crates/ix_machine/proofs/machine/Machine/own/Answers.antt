use Rattle.ix_machine.proofs.Stepped.{still_answers, tested_still}
use Rattle.ix_machine.proofs.machine.Machine.own.Goals as goal

pub returns : goal.returns
returns g c = still_answers _ _ _ _ _ _ _ (tested_still _ c.requires.tested) c.requires.sound.holdings.clean c.decide.ensures.reply c.decide.ensures.frame c.decide.ensures.content
