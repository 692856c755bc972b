use Rattle.std.proofs.Common.{refl, sym}
use Rattle.ix_fcalls.proofs.{Serving.{serves_found, serves_still}, WriteSteps.{write_floats, write_room, answers_write_none, answers_unwritten, answers_write}}
use Rattle.ix_fcalls.proofs.files.Files.write.Goals as goal

pub returns-in_default-clause-step : goal.returns-in_default-clause-step
returns-in_default-clause-step g c buf = answers_write_none g.R.Others.rest _ _ _ _ _ _ _ _ c.requires.sound c.decide.ensures.content c.decide.ensures.reply c.decide.ensures.frame buf
    (sym c.in_default.ensures.behind) refl

pub told_of_write-told-requires : goal.told_of_write-told-requires
told_of_write-told-requires g c = serves_found g.R.Others.rest _ _ _ _ c.requires.sound (sym c.in-Some.ensures.behind) c.in-Some.ensures.offset

pub write_bytes-requires-clause-serves : goal.write_bytes-requires-clause-serves
write_bytes-requires-clause-serves g c = serves_still g.R.Others.rest _ _ _ _ _ (write_floats g.R.Others.rest _ _ _ _ _ _
    _ _ c.requires.sound c.decide-2.ensures.content c.decide-2.ensures.reply c.decide-2.ensures.frame) c.decide-2.ensures.content (serves_found g.R.Others.rest _ _ _ _ c.requires.sound
    (sym c.in-Some.ensures.behind) c.in-Some.ensures.offset)

pub write_bytes-requires-clause-room : goal.write_bytes-requires-clause-room
write_bytes-requires-clause-room g c = write_room g.R.Others.rest _ _ _ _ _ _ _ _ c.requires.sound c.decide-2.ensures.content c.decide-2.ensures.reply
    c.decide-2.ensures.frame _ (sym c.in-Some.ensures.behind) c.told_of_write-told.ensures _ c.in-Number.is

pub returns-in-Number-clause-step : goal.returns-in-Number-clause-step
returns-in-Number-clause-step g c buf = answers_write g.R.Others.rest _ _ _ _ _ _ _ _ c.requires.sound c.decide-2.ensures.content c.decide-2.ensures.reply
    c.decide-2.ensures.frame _ (sym c.in-Some.ensures.behind) c.told_of_write-told.ensures c.write_bytes.new.self _ buf c.in-Number.is c.write_bytes.ensures.frame c.write_bytes.ensures.content

pub returns-in_default-decide-clause-step : goal.returns-in_default-decide-clause-step
returns-in_default-decide-clause-step g c buf = answers_unwritten g.R.Others.rest _ _ _ _ _ _ _ _ c.requires.sound c.decide-2.ensures.content c.decide-2.ensures.reply
    c.decide-2.ensures.frame _ (sym c.in-Some.ensures.behind) c.told_of_write-told.ensures buf c.in_default-decide.not-Number
