use Rattle.std.proofs.Common.{sym, ap, ◌∙◌}
use Rattle.ix_model.{specs.world.{Naming.same_bytes, NameRefs.name_of}, proofs.texts.Joining.same_just}
use Rattle.ix_model.proofs.mounts.is_just.Goals as goal

pub returns : goal.returns
returns c =
    c.eq.ensures
    ∙ ap (λ b. same_bytes b c.text.result.now) c.as_bytes.ensures.bytes
    ∙ ap (same_bytes (name_of c.args.name.now)) c.text.ensures.is
    ∙ sym (same_just (name_of c.args.name.now) c.args.path.now.text.now c.as_bytes.ensures.name)
