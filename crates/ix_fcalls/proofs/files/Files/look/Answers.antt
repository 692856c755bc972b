use Rattle.ix_model.specs.{rows.Telling.nothing_told}
use Rattle.ix_fcalls.proofs.LookSteps.{answers_look, tells_file, look_filed}
use Rattle.ix_fcalls.proofs.files.Files.look.Goals as goal

pub decide-reply-requires-clause-filed : goal.decide-reply-requires-clause-filed
decide-reply-requires-clause-filed g c = look_filed _ c.requires.look

pub sized-requires : goal.sized-requires
sized-requires g c = tells_file g.R.Others.rest c.args.self.now c.decide-reply.new.self _ _ _ nothing_told _ c.requires.look c.decide-reply.ensures.reply c.decide-reply.ensures.frame

pub returns-clause-step : goal.returns-clause-step
returns-clause-step g c buf = answers_look _ _ _ _ _ _ _ _ _ c.requires.look c.requires.sound c.decide-reply.ensures.content c.decide-reply.ensures.reply
    c.decide-reply.ensures.frame c.sized.ensures
