use Rattle.std.proofs.Common.{refl, sym}
use Rattle.ix_fcalls.proofs.{Serving.{serves_found, serves_still}, ReadSteps.{read_floats, read_few, answers_read_none, answers_unread, answers_read}}
use Rattle.ix_fcalls.proofs.files.Files.read.Goals as goal

pub returns-in_default-clause-step : goal.returns-in_default-clause-step
returns-in_default-clause-step g c = answers_read_none g.R.Others.rest _ _ _ _ _ _ _ _ c.requires.sound c.decide.ensures.content c.decide.ensures.reply c.decide.ensures.frame _
    (sym c.in_default.ensures.behind) refl

pub told_of_read-told-requires : goal.told_of_read-told-requires
told_of_read-told-requires g c = serves_found g.R.Others.rest _ _ _ _ c.requires.sound (sym c.in-Some.ensures.behind) c.in-Some.ensures.offset

pub read_bytes-requires-clause-serves : goal.read_bytes-requires-clause-serves
read_bytes-requires-clause-serves g c = serves_still g.R.Others.rest _ _ _ _ _
    (read_floats g.R.Others.rest _ _ _ _ _ _ _ _ c.requires.sound c.decide-2.ensures.content c.decide-2.ensures.reply c.decide-2.ensures.frame)
    c.decide-2.ensures.content (serves_found g.R.Others.rest _ _ _ _ c.requires.sound (sym c.in-Some.ensures.behind) c.in-Some.ensures.offset)

pub read_bytes-requires-clause-few : goal.read_bytes-requires-clause-few
read_bytes-requires-clause-few g c = read_few g.R.Others.rest _ _ _ _ _ _ _ _ c.requires.sound c.decide-2.ensures.content c.decide-2.ensures.reply c.decide-2.ensures.frame _ c.in-Bytes.is

pub returns-in-Bytes-clause-step : goal.returns-in-Bytes-clause-step
returns-in-Bytes-clause-step g c = answers_read g.R.Others.rest _ _ _ _ _ _ _ _ c.requires.sound c.decide-2.ensures.content c.decide-2.ensures.reply c.decide-2.ensures.frame
    _ (sym c.in-Some.ensures.behind) c.told_of_read-told.ensures c.read_bytes.new.self _ _ _ _ c.in-Bytes.is
    c.read_bytes.ensures.count c.read_bytes.ensures.bytes c.read_bytes.ensures.frame c.read_bytes.ensures.content

pub returns-in_default-decide-clause-step : goal.returns-in_default-decide-clause-step
returns-in_default-decide-clause-step g c = answers_unread g.R.Others.rest _ _ _ _ _ _ _ _ c.requires.sound c.decide-2.ensures.content c.decide-2.ensures.reply
    c.decide-2.ensures.frame _ (sym c.in-Some.ensures.behind) c.told_of_read-told.ensures _ c.in_default-decide.not-Bytes
