use Rattle.std.proofs.Common.{◌++◌, sym, ap, subst, ◌∙◌}
use Rattle.ix_model.specs.history.History.{world_of}
use Rattle.ix_image.{specs.{Image.link_bytes, Saving.IsFirst}, proofs.Saved.{name_on, name_last, behind_first}}
use Rattle.ix_image.proofs.parts.write_name.Goals as goal

pub returns-in-Some-clause-text : goal.returns-in-Some-clause-text
returns-in-Some-clause-text c = λ fss.
    let w = world_of c.args.core.now in
    name_on _ w _ _ _ _ _ _ _ _ c.requires
    (sym (behind_first w _ _ _ c.args.object.0 _ (subst (λ name. IsFirst w c.args.n c.args.left (name, c.args.object.0)) (sym c.as_ref.ensures) c.requires)
    c.in-Some.ensures.next))
    (c.in_ok-push_link.ensures.text ∙ ap (λ name. c.args.line.now.text ++ link_bytes (name, c.args.object.0)) c.as_bytes.ensures.bytes)

pub returns-in-None-clause-text : goal.returns-in-None-clause-text
returns-in-None-clause-text c = λ fss.
    let w = world_of c.args.core.now in
    name_last _ w _ _ _ _ _ _ c.requires
    (sym (behind_first w _ _ _ c.args.object.0 _ (subst (λ name. IsFirst w c.args.n c.args.left (name, c.args.object.0)) (sym c.as_ref.ensures) c.requires)
    c.in-None.ensures.next))
    (c.in_ok-push_link.ensures.text ∙ ap (λ name. c.args.line.now.text ++ link_bytes (name, c.args.object.0)) c.as_bytes.ensures.bytes)
