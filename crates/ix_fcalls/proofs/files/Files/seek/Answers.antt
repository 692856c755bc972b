use Rattle.std.proofs.Common.{◌≡◌, sym, ap, subst, is_some, true, slice_set, ◌∙◌}
use Rattle.ix_model.specs.world.World.{at}
use Rattle.ix_tables.specs.Parts.{Parts}
use Rattle.ix_fcalls.{proofs.{Serving.{serves_found, serves_still}, SeekSteps.{seek_floats, answers_seek_none, answers_unsought, answers_seek}}}
use Rattle.ix_fcalls.proofs.files.Files.seek.Goals as goal

pub returns-in_default-clause-step : goal.returns-in_default-clause-step
returns-in_default-clause-step g c buf = answers_seek_none g.R.Others.rest _ _ _ _ _
    _ _ c.requires.sound c.decide.ensures.content c.decide.ensures.reply c.decide.ensures.frame buf (sym c.in_default.ensures.behind)

pub seek-requires : goal.seek-requires
seek-requires g c = subst (λ (v : Parts). is_some (at v.opens c.in-Some.e.id) ≡ true) (sym c.self.view_is) (serves_still g.R.Others.rest _ _ _ _ _ (seek_floats g.R.Others.rest _ _ _ _ _ _ _
    c.requires.sound c.decide-2.ensures.content c.decide-2.ensures.reply c.decide-2.ensures.frame) c.decide-2.ensures.content
    (serves_found g.R.Others.rest _ _ _ _ c.requires.sound (sym c.in-Some.ensures.behind) c.in-Some.ensures.offset)).entry

pub returns-in-Done-clause-step : goal.returns-in-Done-clause-step
returns-in-Done-clause-step g c buf = answers_seek g.R.Others.rest _ _ _ _ _ _ _ c.requires.sound c.decide-2.ensures.content c.decide-2.ensures.reply c.decide-2.ensures.frame _
    (sym c.in-Some.ensures.behind) _ buf c.in-Done.is
    (c.seek.ensures ∙ ap (λ (v : Parts). let w : Parts = record v { offsets = slice_set v.offsets c.in-Some.e.id c.args.offset } in w) c.self.view_is)

pub returns-in_default-decide-clause-step : goal.returns-in_default-decide-clause-step
returns-in_default-decide-clause-step g c buf = answers_unsought g.R.Others.rest _ _ _ _ _ _ _ c.requires.sound c.decide-2.ensures.content c.decide-2.ensures.reply c.decide-2.ensures.frame
    _ (sym c.in-Some.ensures.behind) buf c.in_default-decide.not-Done
