use Rattle.std.{proofs.{Common.{◌∙◌, false, length, refl, sym, ap, arith}, lemmas.List.length-append}, specs.Option.option_map_or}
use Rattle.ix_fcalls.specs.Spots.{view_through}
use Rattle.ix_model.specs.{history.{History.{world_of, with_entry}, Made.entry}, world.World.{at, is_pipe}}
use Rattle.ix_model.specs.history.Events as op
use Rattle.ix_flow.proofs.Writes.{few_then, led, shown_then, told_then, write_living, write_opened, write_refused, write_to_file, write_to_pipe}
use Rattle.ix_flow.proofs.tracks.Tracks.write.Goals as goal

pub returns-in_default : goal.returns-in_default
returns-in_default c = λ seat line h step are.
    let e = entry seat line c.args.pid (op.WriteFd _ _) in
    led _ h _ e _ step.history
    (write_refused h _ _ _ _ _ (few_then h _ e step.history (omega (arith, c.requires.place, c.requires.few))) _ are
    (λ k gives. c.in_default.not-Number k (step.reply ∙ gives)))

pub returns-in_default-opened : goal.returns-in_default-opened
returns-in_default-opened c = λ seat line h step are.
    absurd (write_opened h _ _ _ _ _ _ are _ (sym step.reply ∙ c.in-Number.is) _
    (told_then h _ _ _ _ _ _ step.history c.opened.ensures c.in_default-opened.is))

pub returns-in_default-process : goal.returns-in_default-process
returns-in_default-process c = λ seat line h step are.
    absurd (write_living h _ _ _ _ _ _ are _ (sym step.reply ∙ c.in-Number.is)
    (shown_then h _ _ _ _ _ step.history c.process.ensures c.in_default-process.is))

pub returns-then-is_pipe : goal.returns-then-is_pipe
returns-then-is_pipe c = λ seat line h step are.
    let e = entry seat line c.args.pid (op.WriteFd c.args.fd.0 c.args.bytes.now) in
    led _ h _ e _ step.history
    (write_to_pipe h _ _ _ c.args.fd.0 _ _ are _ (sym step.reply ∙ c.in-Number.is) (few_then h _ e step.history (omega (arith, c.requires.place, c.requires.few)))
    _ (view_through (world_of (with_entry h e))) (λ b. refl) (λ b. refl) (λ b. refl) (told_then h _ e _ c.args.fd.0 _ _ step.history c.opened.ensures c.in-Some.is)
    _ (shown_then h _ e _ _ _ step.history c.process.ensures c.in-Some-process.is) _ c.in_ok-label.ensures.stays
    _ _ _ (c.requires.place ∙ ap (λ k. length k.events) step.history ∙ length-append h.events _) c.in_ok-label.ensures.label c.in-Ok.ensures.1 _
    _ (c.is_pipe.ensures ∙ ap (λ k. option_map_or is_pipe (at (world_of k).frame.objects c.in-Some.view.obj.0) false) step.history) c.if-is_pipe.true
    _ c.saturating_sub-end.ensures c.in_ok-append.ensures)

pub returns : goal.returns
returns c = λ seat line h step are.
    let e = entry seat line c.args.pid (op.WriteFd c.args.fd.0 c.args.bytes.now) in
    led _ h _ e _ step.history
    (write_to_file h _ _ _ c.args.fd.0 _ _ are _ (sym step.reply ∙ c.in-Number.is) (few_then h _ e step.history (omega (arith, c.requires.place, c.requires.few)))
    _ (view_through (world_of (with_entry h e))) (λ b. refl) (λ b. refl) (λ b. refl) (told_then h _ e _ c.args.fd.0 _ _ step.history c.opened.ensures c.in-Some.is)
    _ (shown_then h _ e _ _ _ step.history c.process.ensures c.in-Some-process.is) _ c.in_ok-label.ensures.stays
    _ _ _ (c.requires.place ∙ ap (λ k. length k.events) step.history ∙ length-append h.events _) c.in_ok-label.ensures.label c.in-Ok.ensures.1 _
    _ (c.is_pipe.ensures ∙ ap (λ k. option_map_or is_pipe (at (world_of k).frame.objects c.in-Some.view.obj.0) false) step.history) c.if-is_pipe.false
    _ c.saturating_sub-offset.ensures c.in_ok-write.ensures)
