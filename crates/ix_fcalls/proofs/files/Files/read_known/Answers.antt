use Rattle.std.proofs.Common.{◌∙◌, sym}
use Rattle.ix_fcalls.{proofs.{Serving.serves_found, KnownSteps.{known_few, known_read, known_unread}}}
use Rattle.ix_fcalls.proofs.files.Files.read_known.Goals as goal

pub told_of_read-told-requires : goal.told_of_read-told-requires
told_of_read-told-requires g c = serves_found g.R.Others.rest _ _ _ _ c.requires.sound (sym c.in-Some.ensures.behind) c.in-Some.ensures.offset

pub read_bytes-requires-clause-serves : goal.read_bytes-requires-clause-serves
read_bytes-requires-clause-serves g c = serves_found g.R.Others.rest _ _ _ _ c.requires.sound (sym c.in-Some.ensures.behind) c.in-Some.ensures.offset

pub read_bytes-requires-clause-few : goal.read_bytes-requires-clause-few
read_bytes-requires-clause-few g c = known_few g.R.Others.rest c.args.self.now _ _ _ _ c.requires.sound c.behind.ensures.lives _ (sym c.in-Some.ensures.behind) c.told_of_read-told.ensures
    c.in-Ok.ensures.row

pub returns-in-Ok-clause-step : goal.returns-in-Ok-clause-step
returns-in-Ok-clause-step g c = known_read g.R.Others.rest c.args.self.now _ _ _ _ c.requires.sound c.behind.ensures.lives _ (sym c.in-Some.ensures.behind) c.told_of_read-told.ensures
    c.in-Ok.ensures.row
    c.read_bytes.new.self _ _ _ c.read_bytes.ensures.count c.read_bytes.ensures.bytes c.read_bytes.ensures.frame c.read_bytes.ensures.content

pub returns-in-Err-clause-step : goal.returns-in-Err-clause-step
returns-in-Err-clause-step g c = known_unread g.R.Others.rest c.args.self.now _ _ _ _ c.requires.sound c.behind.ensures.lives _ (sym c.in-Some.ensures.behind) c.told_of_read-told.ensures _ _
    c.in-Err.ensures.row

pub unreachable-requires : goal.unreachable-requires
unreachable-requires g c = let h = c.in_default.ensures.behind ∙ c.requires.known.is_behind in cc
