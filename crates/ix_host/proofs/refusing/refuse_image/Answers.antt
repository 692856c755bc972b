use Rattle.std.proofs.Common.{◌∙◌, refl, sym}
use Rattle.ix_host.specs.run.Outcome as outcome
use Rattle.ix_host.proofs.refusing.refuse_image.Goals as goal

pub returns-in-Ok : goal.returns-in-Ok
returns-in-Ok g c = c.tell.ensures (outcome.Faulty c.args.at c.args.rule) (sym (c.as_slice.ensures.value ∙ c.in-Ok.ensures)) refl
