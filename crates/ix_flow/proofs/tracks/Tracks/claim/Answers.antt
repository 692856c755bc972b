use Rattle.std.proofs.Common.{◌∙◌, refl, ap, sym}
use Rattle.ix_model.specs.history.{History.world_of, Made.entry, Views.size_at}
use Rattle.ix_model.specs.history.Events as op
use Rattle.ix_flow.proofs.{Writes.{few_then, led, told_then}, Claims.{claim_empty, claim_left, claim_none}}
use Rattle.ix_flow.proofs.tracks.Tracks.claim.Goals as goal

pub returns-in_default : goal.returns-in_default
returns-in_default c = λ seat line reply h step are.
    let e = entry seat line c.args.pid (op.Pex _) in
    led _ h _ e _ step.history
    (claim_none h _ _ _ _ (few_then h _ e step.history c.requires.few) _ are _
    (told_then h _ e _ _ _ _ step.history c.opened.ensures c.in_default.is))

pub returns-then-is_empty : goal.returns-then-is_empty
returns-then-is_empty c = λ seat line reply h step are.
    let e = entry seat line c.args.pid (op.Pex _) in
    let empty = c.is_empty.ensures.empty c.if-is_empty.true in
    let o = c.in-Some.view.obj.0 in
    led _ h _ e _ step.history
    (claim_empty h _ _ _ _ (few_then h _ e step.history c.requires.few) _ are _ _
    (λ b. refl)
    (told_then h _ e _ _ _ _ step.history c.opened.ensures c.in-Some.is)
    (ap (λ k. size_at (world_of k) o 0) (sym step.history) ∙ empty.0) (ap (λ k. size_at (world_of k) o 1) (sym step.history) ∙ empty.1)
    _ c.forget.ensures.none c.forget.ensures.others)

pub returns-else-is_empty : goal.returns-else-is_empty
returns-else-is_empty c = λ seat line reply h step are.
    let e = entry seat line c.args.pid (op.Pex _) in
    let o = c.in-Some.view.obj.0 in
    led _ h _ e _ step.history
    (claim_left h _ _ _ _ (few_then h _ e step.history c.requires.few) _ are _ _
    (λ b. refl)
    (told_then h _ e _ _ _ _ step.history c.opened.ensures c.in-Some.is)
    (λ first second. c.is_empty.ensures.not c.if-is_empty.false (ap (λ k. size_at (world_of k) o 0) step.history ∙ first)
    (ap (λ k. size_at (world_of k) o 1) step.history ∙ second)))
