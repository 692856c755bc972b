use Rattle.std.proofs.Common.{sym, ◌∙◌, arith}
use Rattle.ix_model.specs.history.History.{world_of}
use Rattle.ix_image.proofs.Saved.{skipped_goes, head_goes, none_kept, kept_there}
use Rattle.ix_image.proofs.parts.write_object.Goals as goal

pub returns-in_default-clause-text : goal.returns-in_default-clause-text
returns-in_default-clause-text c = λ fss.
    skipped_goes _ _ _ _ (omega (arith, c.objects.ensures)) (none_kept (world_of c.args.core.now) c.args.n (sym c.kept.ensures ∙ c.in_default.is))

pub returns-clause-text : goal.returns-clause-text
returns-clause-text c = λ fss.
    head_goes _ _ _ _ _ _ _
    (kept_there _ _ _ (sym c.kept.ensures ∙ c.in-Some.is)) c.in_ok-push_head.ensures.text c.begin.ensures
