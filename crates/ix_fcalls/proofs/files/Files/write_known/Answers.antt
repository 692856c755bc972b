use Rattle.std.proofs.Common.{◌∙◌, sym}
use Rattle.ix_fcalls.{proofs.{Serving.serves_found, KnownSteps.{known_room, known_write, known_unwritten}}}
use Rattle.ix_fcalls.proofs.files.Files.write_known.Goals as goal

pub told_of_write-told-requires : goal.told_of_write-told-requires
told_of_write-told-requires g c = serves_found g.R.Others.rest _ _ _ _ c.requires.sound (sym c.in-Some.ensures.behind) c.in-Some.ensures.offset

pub write_bytes-requires-clause-serves : goal.write_bytes-requires-clause-serves
write_bytes-requires-clause-serves g c = serves_found g.R.Others.rest _ _ _ _ c.requires.sound (sym c.in-Some.ensures.behind) c.in-Some.ensures.offset

pub write_bytes-requires-clause-room : goal.write_bytes-requires-clause-room
write_bytes-requires-clause-room g c =
    known_room g.R.Others.rest c.args.self.now _ _ _ _ c.requires.sound c.behind.ensures.lives _ (sym c.in-Some.ensures.behind) c.told_of_write-told.ensures c.in-Ok.ensures.row

pub returns-in-Ok-clause-step : goal.returns-in-Ok-clause-step
returns-in-Ok-clause-step g c buf =
    known_write g.R.Others.rest c.args.self.now _ _ _ _ c.requires.sound c.behind.ensures.lives _ (sym c.in-Some.ensures.behind) c.told_of_write-told.ensures c.in-Ok.ensures.row
    c.write_bytes.new.self buf c.write_bytes.ensures.frame c.write_bytes.ensures.content

pub returns-in-Err-clause-step : goal.returns-in-Err-clause-step
returns-in-Err-clause-step g c buf = known_unwritten g.R.Others.rest c.args.self.now _ _ _ _ c.requires.sound c.behind.ensures.lives _ (sym c.in-Some.ensures.behind)
    c.told_of_write-told.ensures _ buf c.in-Err.ensures.row

pub unreachable-requires : goal.unreachable-requires
unreachable-requires g c = let h = c.in_default.ensures.behind ∙ c.requires.known.is_behind in cc
