use Rattle.ix_fcalls.proofs.Answering.{answers_plain, plain_filed}
use Rattle.ix_fcalls.proofs.files.Files.plain.Goals as goal

pub returns-clause-step : goal.returns-clause-step
returns-clause-step g c buf = answers_plain _ _ _ _ _ _
    _ _ c.requires.plain c.requires.sound c.decide.ensures.content c.decide.ensures.reply c.decide.ensures.frame

pub decide-requires-clause-filed : goal.decide-requires-clause-filed
decide-requires-clause-filed g c = plain_filed _ c.requires.plain
