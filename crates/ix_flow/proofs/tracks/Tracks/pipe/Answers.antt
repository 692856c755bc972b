use Rattle.std.proofs.Common.{◌∙◌, refl, sym}
use Rattle.ix_model.specs.history.Made.{entry}
use Rattle.ix_model.specs.history.Events as op
use Rattle.ix_flow.proofs.{Writes.{few_then, led, told_then}, Making.{no_pipe, pipe_made, pipe_opened}}
use Rattle.ix_flow.proofs.tracks.Tracks.pipe.Goals as goal

pub returns-in_default : goal.returns-in_default
returns-in_default c = λ seat line h step are.
    let e = entry seat line c.args.pid op.MakePipe in
    led _ h _ e _ step.history
    (no_pipe h _ _ _ (few_then h _ e step.history c.requires.few) _ are (λ a b gives. c.in_default.not-Two a b (step.reply ∙ gives)))

pub returns-in_default-opened : goal.returns-in_default-opened
returns-in_default-opened c = λ seat line h step are.
    let e = entry seat line c.args.pid op.MakePipe in
    absurd (pipe_opened h _ _ _ (few_then h _ e step.history c.requires.few) _ are _ _ (sym step.reply ∙ c.in-Two.is)
    _
    (told_then h _ e _ _ _ _ step.history c.opened.ensures c.in_default-opened.is))

pub returns : goal.returns
returns c = λ seat line h step are.
    let e = entry seat line c.args.pid op.MakePipe in
    led _ h _ e _ step.history
    (pipe_made h _ _ _ (few_then h _ e step.history c.requires.few) _ are _ _ (sym step.reply ∙ c.in-Two.is)
    _ _ (λ b. refl)
    (told_then h _ e _ _ _ _ step.history c.opened.ensures c.in-Some.is) _ c.forget.ensures.none c.forget.ensures.others)
