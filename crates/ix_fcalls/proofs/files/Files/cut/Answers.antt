use Rattle.std.proofs.{Common.{refl, sym, ◌∙◌, nat_lt}, lemmas.Bool.{ltb-false, or_parts}}
use Rattle.ix_fcalls.{specs.{Views.behind_of}, proofs.{Serving.{serves_found, serves_still}, Unmoved.pipe_same}}
use Rattle.ix_fcalls.proofs.CutSteps.{cut_floats, cut_room, answers_cut_none, answers_no_cut, answers_uncut, answers_cut}
use Rattle.ix_fcalls.proofs.files.Files.cut.Goals as goal

pub returns-in_default-clause-step : goal.returns-in_default-clause-step
returns-in_default-clause-step g c buf = answers_cut_none g.R.Others.rest _ _ _ _ _
    _ _ _ c.requires.sound c.decide.ensures.content c.decide.ensures.reply c.decide.ensures.frame buf (sym c.in_default.ensures.behind) refl

pub returns-then-is_no_cut-clause-step : goal.returns-then-is_no_cut-clause-step
returns-then-is_no_cut-clause-step g c buf = answers_no_cut g.R.Others.rest _ _ _ _ _ _ _ _ c.requires.sound c.decide-then-is_no_cut.ensures.content
    c.decide-then-is_no_cut.ensures.reply c.decide-then-is_no_cut.ensures.frame _ (sym c.in-Some.ensures.behind) buf (sym c.is_no_cut.ensures ∙ c.if-is_no_cut.true)

pub told_of_cut-told-requires-clause-serves : goal.told_of_cut-told-requires-clause-serves
told_of_cut-told-requires-clause-serves g c = serves_found g.R.Others.rest _ _ _ _ c.requires.sound (sym c.in-Some.ensures.behind) c.in-Some.ensures.offset

pub told_of_cut-told-requires-clause-file : goal.told_of_cut-told-requires-clause-file
told_of_cut-told-requires-clause-file g c = (or_parts _ _ (sym c.is_no_cut.ensures ∙ c.if-is_no_cut.false)).1

pub told_of_cut-told-requires-clause-most : goal.told_of_cut-told-requires-clause-most
told_of_cut-told-requires-clause-most g c = ltb-false 1048576 _ (or_parts _ _ (sym c.is_no_cut.ensures ∙ c.if-is_no_cut.false)).0

pub cut_bytes-requires-clause-file : goal.cut_bytes-requires-clause-file
cut_bytes-requires-clause-file g c =
    pipe_same _ _ (cut_floats g.R.Others.rest _ _ _ _ _ _ _ _ c.requires.sound c.decide-2.ensures.content c.decide-2.ensures.reply c.decide-2.ensures.frame) (behind_of c.in-Some.e)
    ∙ (or_parts (nat_lt 1048576 c.args.len) _ (sym c.is_no_cut.ensures ∙ c.if-is_no_cut.false)).1

pub cut_bytes-requires-clause-most : goal.cut_bytes-requires-clause-most
cut_bytes-requires-clause-most g c = ltb-false 1048576 _ (or_parts _ _ (sym c.is_no_cut.ensures ∙ c.if-is_no_cut.false)).0

pub cut_bytes-requires-clause-serves : goal.cut_bytes-requires-clause-serves
cut_bytes-requires-clause-serves g c = serves_still g.R.Others.rest _ _ _ _ _ (cut_floats g.R.Others.rest _ _ _ _ _ _ _
    _ c.requires.sound c.decide-2.ensures.content c.decide-2.ensures.reply c.decide-2.ensures.frame) c.decide-2.ensures.content
    (serves_found g.R.Others.rest _ _ _ _ c.requires.sound (sym c.in-Some.ensures.behind) c.in-Some.ensures.offset)

pub cut_bytes-requires-clause-room : goal.cut_bytes-requires-clause-room
cut_bytes-requires-clause-room g c = cut_room g.R.Others.rest _ _ _ _ _ _ _ _ c.requires.sound c.decide-2.ensures.content c.decide-2.ensures.reply c.decide-2.ensures.frame
    _ (sym c.in-Some.ensures.behind) c.told_of_cut-told.ensures c.in-Done.is

pub returns-in-Done-clause-step : goal.returns-in-Done-clause-step
returns-in-Done-clause-step g c buf = answers_cut g.R.Others.rest _ _ _ _ _ _ _ _ c.requires.sound c.decide-2.ensures.content c.decide-2.ensures.reply c.decide-2.ensures.frame
    _ (sym c.in-Some.ensures.behind) c.told_of_cut-told.ensures c.cut_bytes.new.self buf c.in-Done.is c.cut_bytes.ensures.frame c.cut_bytes.ensures.content

pub returns-in_default-decide-clause-step : goal.returns-in_default-decide-clause-step
returns-in_default-decide-clause-step g c buf = answers_uncut g.R.Others.rest _ _ _ _ _ _ _ _ c.requires.sound c.decide-2.ensures.content c.decide-2.ensures.reply
    c.decide-2.ensures.frame _ (sym c.in-Some.ensures.behind) c.told_of_cut-told.ensures buf c.in_default-decide.not-Done
