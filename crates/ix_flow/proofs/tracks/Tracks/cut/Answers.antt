use Rattle.std.proofs.Common.{◌∙◌, refl, sym}
use Rattle.ix_model.specs.history.Made.{entry}
use Rattle.ix_model.specs.history.Events as op
use Rattle.ix_flow.proofs.{Writes.{few_then, led, told_then}, Cuts.{cut_done, cut_opened, cut_refused}}
use Rattle.ix_flow.proofs.tracks.Tracks.cut.Goals as goal

pub returns-in_default : goal.returns-in_default
returns-in_default c = λ seat line h step are.
    let e = entry seat line c.args.pid (op.CutFd _ _) in
    led _ h _ e _ step.history
    (cut_refused h _ _ _ _ _ (few_then h _ e step.history c.requires.few) _ are (λ done. c.in_default.not-Done (step.reply ∙ done)))

pub returns-in_default-opened : goal.returns-in_default-opened
returns-in_default-opened c = λ seat line h step are.
    absurd (cut_opened h _ _ _ _ _ _ are (sym step.reply ∙ c.in-Done.is) _
    (told_then h _ _ _ _ _ _ step.history c.opened.ensures c.in_default-opened.is))

pub returns : goal.returns
returns c = λ seat line h step are.
    let e = entry seat line c.args.pid (op.CutFd _ _) in
    led _ h _ e _ step.history
    (cut_done h _ _ _ _ _ _ are (sym step.reply ∙ c.in-Done.is) (few_then h _ e step.history c.requires.few)
    _ _ (λ b. refl) (λ b. refl) (λ b. refl)
    (told_then h _ e _ _ _ _ step.history c.opened.ensures c.in-Some.is) _ c.in_ok-cut.ensures)
